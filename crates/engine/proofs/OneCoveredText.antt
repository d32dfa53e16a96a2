-- Two calls on the same layers, read as covered, have one text of a result.
use Rattle.std.proofs.Common.{◌≡◌, ◌∙◌, ℕ, List, [], ◌∷◌, ap, subst, sym}
use Rattle.std.proofs.Math.Logic.{∥∥₁_elim}
use Rattle.geom.specs.declared.op.Op.{Op}
use Rattle.geom.specs.declared.point.Pt.{Pt}
use Rattle.wkt.specs.Canonical.{multi_text}
use Rattle.covered.specs.Results.{AreCoveredPolygons}
use Rattle.covered.proofs.CoveredPolygons.{covered_polygons_are_one}
use Rattle.layers.specs.declared.plan.Plan.{Plan}
use Rattle.results.specs.declared.text.Report.{Report}
use Rattle.engine.specs.CoveredRuns.{CoveredTextIsOneWithin, IsCoveredOf, IsCoveredWritten}
use Rattle.engine.proofs.Determined.{text_prop}
use Rattle.engine.proofs.LayersKnown.{one_list}

polygons_of : (op : Op) (a b : List (List (List Pt))) (text : List ℕ) → (t : IsCoveredOf op a b text) → AreCoveredPolygons op a b t.is_text.polygons
polygons_of op a b text t = record {
  segments = t.segments;
  owners = t.owners;
  are_segments = t.are_segments;
  edges = t.edges;
  are_bordered = t.are_bordered;
  directed = t.is_text.directed;
  are_edges = t.is_text.bound;
  are_polygons = t.is_text.are_polygons;
  each_edge = t.is_text.each_edge;
}

one_of : (op : Op) (a b : List (List (List Pt))) (text text' : List ℕ) → IsCoveredOf op a b text → IsCoveredOf op a b text' → text ≡ text'
one_of op a b text text' s t =
    s.is_text.written ∙ ap multi_text (covered_polygons_are_one op a b s.is_text.polygons t.is_text.polygons (polygons_of op a b text s) (polygons_of op a b text' t)) ∙ sym t.is_text.written

heads : {X : Type 0} (x y z w : X) → x ∷ y ∷ [] ≡ z ∷ w ∷ [] → (x ≡ z) × (y ≡ w)
heads {X} x y z w h = (cc, cc)

same_text : (M N : Type 0) (segments other_segments : ℕ) (op : Op) (plan other : Plan) (a b text text' : List ℕ) (report : Report M) (report' : Report N)
    → IsCoveredWritten segments op plan a b text report → IsCoveredWritten other_segments op other a b text' report' → text ≡ text'
same_text M N segments other_segments op plan other a b text text' report report' h k =
    let e = heads h.features_a h.features_b k.features_a k.features_b
    (one_list (a ∷ b ∷ []) (h.features_a ∷ h.features_b ∷ []) (k.features_a ∷ k.features_b ∷ []) h.ready.stand k.ready.stand) in
    ∥∥₁_elim h.result (text_prop text text') (λ s.
    ∥∥₁_elim k.result (text_prop text text') (λ t.
    one_of op k.features_a k.features_b text text'
    (subst (λ (fs : List (List (List Pt))). IsCoveredOf op fs k.features_b text) e.0 (subst (λ (fs : List (List (List Pt))). IsCoveredOf op h.features_a fs text) e.1 s.of)) t.of))

pub covered_text_is_one : (M N : Type 0) → CoveredTextIsOneWithin M N
covered_text_is_one M N = same_text M N
