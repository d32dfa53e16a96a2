-- Two runs of one operation on the same two layers have one list of polygons, and so one text.
use Rattle.std.proofs.Common.{◌≡◌, ℕ, List, sym, ap, subst, ◌∙◌}
use Rattle.geom.specs.declared.op.Op.{Op}
use Rattle.geom.specs.declared.directed.DirectedEdge.{DirectedEdge}
use Rattle.geom.specs.declared.edge.Counted.{Counted}
use Rattle.geom.specs.Canonical.{ArePolygons, Shape}
use Rattle.geom.specs.Directed.{AreResultEdges}
use Rattle.geom.proofs.SamePolygons.{same_polygons}
use Rattle.points_law.proofs.OneResult.{one_directed}
use Rattle.engine.specs.Determined.{HaveOneSize, ResultSizesAreOneWithin, ResultTextIsOneWithin}
use Rattle.wkt.specs.Canonical.{multi_text}
use Rattle.results.specs.Results.{IsResult, IsResultText}
use Rattle.engine.specs.Results.{IsResultWrittenWithin}
use Rattle.layers.specs.declared.plan.Plan.{Plan}
use Rattle.results.specs.declared.text.Report.{Report}
use Rattle.engine.proofs.Determined.{one_counted, one_size, text_prop}

-- of the same rounded edges
pub polygons_of_one : (op : Op) (cs ds : List Counted) (ps qs : List Shape) → IsResult op cs ps → IsResult op ds qs → cs ≡ ds → ps ≡ qs
polygons_of_one op cs ds ps qs h k e = same_polygons k.directed k.bound.ascending ps qs (subst (λ (us : List DirectedEdge). ArePolygons us ps) directed h.are_polygons) k.are_polygons
  where
    directed : h.directed ≡ k.directed
    directed = one_directed op ds h.directed k.directed (subst (λ (us : List Counted). AreResultEdges op us h.directed) e h.bound) k.bound

text_of_one : (op : Op) (cs ds : List Counted) (s t : List ℕ) → IsResultText op cs s → IsResultText op ds t → cs ≡ ds → s ≡ t
text_of_one op cs ds s t h k e = h.written ∙ ap multi_text (polygons_of_one op cs ds h.polygons k.polygons h.result k.result e) ∙ sym k.written

one_text : (M N : Type 0) (limit limit' : ℕ) (op : Op) (a b : List ℕ) (plan other : Plan) (text text' : List ℕ) (report : Report M) (report' : Report N)
    → IsResultWrittenWithin limit op plan a b text report → IsResultWrittenWithin limit' op other a b text' report' → text ≡ text'
one_text M N limit limit' op a b plan other text text' report report' h k =
    one_counted a b h.reports.grid k.reports.grid h.counted k.counted h.reports.tiles k.reports.tiles h.reports.rounded k.reports.rounded (text_prop text text')
    (text_of_one op h.counted k.counted text text' h.result k.result)

pub result_text_is_one : (M N : Type 0) → ResultTextIsOneWithin M N
result_text_is_one M N = one_text M N

one_result_size : (M N : Type 0) (limit limit' : ℕ) (op op' : Op) (a b : List ℕ) (plan other : Plan) (text text' : List ℕ) (report : Report M) (report' : Report N)
    → IsResultWrittenWithin limit op plan a b text report → IsResultWrittenWithin limit' op' other a b text' report' → HaveOneSize report report'
one_result_size M N limit limit' op op' a b plan other text text' report report' h k = one_size limit limit' a b plan other h.counted k.counted report report' h.reports k.reports

pub result_sizes_are_one : (M N : Type 0) → ResultSizesAreOneWithin M N
result_sizes_are_one M N = one_result_size M N
