-- A layer alone is a layer too, with the parities of this one; measures are determined by operation and layers.
use Rattle.std.proofs.Common.{◌≡◌, ◌∙◌, ℕ, Bool, true, false, cond, List, [], ◌∷◌, filter, map, refl, sym, ap, subst}
use Rattle.std.specs.List.{AllPairs}
use Rattle.std.specs.Prelude.{All}
use Rattle.std.proofs.Math.IntN.{ℤ}
use Rattle.std.proofs.Props.{props}
use Rattle.geom.specs.declared.directed.DirectedEdge.{DirectedEdge}
use Rattle.geom.specs.declared.edge.Edge.{Edge}
use Rattle.geom.specs.declared.edge.Counted.{Counted}
use Rattle.geom.specs.declared.op.Op.{Op}
use Rattle.geom.specs.declared.op.Op.TheVariants.{Union}
use Rattle.geom.specs.declared.segment.Source.{Source}
use Rattle.geom.specs.declared.segment.Source.TheVariants.{A, B}
use Rattle.geom.specs.Canonical.{Shape}
use Rattle.geom.specs.Directed.{AreResultEdges}
use Rattle.geom.specs.Limit.{AreInLimit}
use Rattle.geom.specs.Noded.{IsNoded}
use Rattle.geom.specs.Operations.{holds}
use Rattle.geom.specs.Parity.{parity}
use Rattle.geom.specs.Rings.{Closes}
use Rattle.geom.specs.Rounded.{HasEvenDegrees, IsEdgeBefore, edges_of, is_odd, odd_edges}
use Rattle.hot_region.proofs.ListLaws.{pairs_map}
use Rattle.points_law.specs.Law.{AreLayers}
use Rattle.points_law.proofs.OneResult.{one_directed}
use Rattle.points_law.proofs.RoundVertex.{closes}
use Rattle.cover_law.specs.Areas.{area_of, twice_area}
use Rattle.rows.proofs.Areas.{polygons_area}
use Rattle.columns.specs.declared.layout.Columns.{Columns}
use Rattle.layers.specs.declared.plan.Plan.{Plan}
use Rattle.results.proofs.Results.{directed_in, layers_known}
use Rattle.results.specs.Results.{IsResult, IsResultText}
use Rattle.results.specs.declared.text.Report.{Report}
use Rattle.engine.specs.declared.columns_output.ColumnsOutput.{ColumnsOutput}
use Rattle.engine.specs.ColumnsRuns.{AreColumnsOver}
use Rattle.engine.specs.Runs.{ReportsWithin}
use Rattle.engine.specs.Measures.{AreColumnsMeasured, AreLayersMeasured, IsLayerArea, IsLayerMeasured, IsMeasuredWithin, LayerAreaTells, MeasuresAreOne, only, steps_in}
use Rattle.engine.specs.declared.measures.LayerMeasures.{LayerMeasures}
use Rattle.engine.specs.declared.measures.Measures.{Measures}
use Rattle.engine.proofs.Determined.{one_counted}
use Rattle.engine.proofs.OneResultText.{polygons_of_one}

-- ---- the edges are the same
pub same_edges : (layer : Source) (cs : List Counted) → edges_of (map (only layer) cs) ≡ edges_of cs
same_edges layer [] = refl
same_edges A (c ∷ cs) = ap (λ (es : List Edge). c.edge ∷ es) (same_edges A cs)
same_edges B (c ∷ cs) = ap (λ (es : List Edge). c.edge ∷ es) (same_edges B cs)

-- an edge of the list is kept where its count is odd
kept : (t : Bool) (e : Edge) (c d : Counted) (cs ds : List Counted) → c.edge ≡ d.edge → edges_of cs ≡ edges_of ds → edges_of (cond t (c ∷ cs) cs) ≡ edges_of (cond t (d ∷ ds) ds)
kept true e c d cs ds h k = λ i. h i ∷ k i
kept false e c d cs ds h k = k

odd_own : (layer : Source) (cs : List Counted) → odd_edges layer (map (only layer) cs) ≡ odd_edges layer cs
odd_own A [] = refl
odd_own B [] = refl
odd_own A (c ∷ cs) = kept (is_odd c.in_a) c.edge (only A c) c (filter (λ d. is_odd d.in_a) (map (only A) cs)) (filter (λ d. is_odd d.in_a) cs) refl (odd_own A cs)
odd_own B (c ∷ cs) = kept (is_odd c.in_b) c.edge (only B c) c (filter (λ d. is_odd d.in_b) (map (only B) cs)) (filter (λ d. is_odd d.in_b) cs) refl (odd_own B cs)

none_of_b : (cs : List Counted) → odd_edges B (map (only A) cs) ≡ []
none_of_b [] = refl
none_of_b (c ∷ cs) = none_of_b cs

none_of_a : (cs : List Counted) → odd_edges A (map (only B) cs) ≡ []
none_of_a [] = refl
none_of_a (c ∷ cs) = none_of_a cs

even_none : (es : List Edge) → es ≡ [] → HasEvenDegrees es
even_none es h = λ v. subst (λ (fs : List Edge). HasEvenDegrees fs) (sym h) (λ w. refl) v

-- ---- and in their order
abbrev Before : Counted → Counted → Type 0
Before c d = IsEdgeBefore c.edge d.edge

ascending : (layer : Source) (cs : List Counted) → AllPairs Before cs → AllPairs Before (map (only layer) cs)
ascending A cs h = pairs_map Before Before (only A) cs h (λ c d i j b. b)
ascending B cs h = pairs_map Before Before (only B) cs h (λ c d i j b. b)

pub layer_alone : (layer : Source) (cs : List Counted) → AreLayers cs → AreLayers (map (only layer) cs)
layer_alone layer cs h = record {
  ascending = ascending layer cs h.ascending;
  in_limit = subst (λ (es : List Edge). All (λ e. AreInLimit e.p e.q) es) (sym (same_edges layer cs)) h.in_limit;
  noded = subst (λ (es : List Edge). IsNoded es) (sym (same_edges layer cs)) h.noded;
  even_a = even_a layer;
  even_b = even_b layer;
}
  where
    even_a : (l : Source) → HasEvenDegrees (odd_edges A (map (only l) cs))
    even_a A = subst (λ (es : List Edge). HasEvenDegrees es) (sym (odd_own A cs)) h.even_a
    even_a B = even_none (odd_edges A (map (only B) cs)) (none_of_a cs)

    even_b : (l : Source) → HasEvenDegrees (odd_edges B (map (only l) cs))
    even_b A = even_none (odd_edges B (map (only A) cs)) (none_of_b cs)
    even_b B = subst (λ (es : List Edge). HasEvenDegrees es) (sym (odd_own B cs)) h.even_b

-- ---- what is known of the directed edges of a result, by a slice of the rounded edges
pub record Known (op : Op) (cs : List Counted) (directed : List DirectedEdge) : Type 0 where
  pub layers : AreLayers cs
  pub bound : AreResultEdges op cs directed
  pub closes : Closes directed
  pub in_limit : All (λ d. AreInLimit d.from d.to) directed

pub known : (op : Op) (cs slice : List Counted) (directed : List DirectedEdge) → ∥ AreLayers cs ∥₁ → slice ≡ cs → AreResultEdges op slice directed → Known op cs directed
known op cs slice directed layered same are =
    let layers = layers_known cs layered in
    let bound = subst (λ (us : List Counted). AreResultEdges op us directed) same are in
    record { layers = layers; bound = bound; closes = closes op cs layers directed bound; in_limit = directed_in op cs directed layers.in_limit bound }

-- such a slice has layers too
pub slice_layers : (cs slice : List Counted) → ∥ AreLayers cs ∥₁ → slice ≡ cs → AreLayers slice
slice_layers cs slice layered same = subst (λ (us : List Counted). AreLayers us) (sym same) (layers_known cs layered)

pub alone_in_limit : (layer : Source) (cs : List Counted) (directed : List DirectedEdge) → AreLayers cs → AreResultEdges Union (map (only layer) cs) directed → All (λ d. AreInLimit d.from d.to) directed
alone_in_limit layer cs directed h bound = directed_in Union (map (only layer) cs) directed (layer_alone layer cs h).in_limit bound

-- ---- its points are those where the layer's parity is odd
or_none : (t : Bool) → holds Union t false ≡ t
or_none true = refl
or_none false = refl

none_or : (t : Bool) → holds Union false t ≡ t
none_or true = refl
none_or false = refl

pub layer_area_tells : LayerAreaTells
layer_area_tells A cs z = (λ i. holds Union (parity (odd_own A cs i) z) (parity (none_of_b cs i) z)) ∙ or_none (parity (odd_edges A cs) z)
layer_area_tells B cs z = (λ i. holds Union (parity (none_of_a cs i) z) (parity (odd_own B cs i) z)) ∙ none_or (parity (odd_edges B cs) z)

-- ---- measures
pub layer_measured : (layer : Source) (cs : List Counted) (directed : List DirectedEdge) (m : LayerMeasures) → AreResultEdges Union (map (only layer) cs) directed → m.twice_area ≡ twice_area directed → m.steps ≡ steps_in layer cs
    → IsLayerMeasured layer cs m
layer_measured layer cs directed m bound area steps = record { area = record { directed = directed; bound = bound; area_is = area }; steps = steps }

-- the area of a result's polygons is that which the directed edges bound
pub result_area : (op : Op) (cs : List Counted) (directed : List DirectedEdge) (polygons : List Shape) → AreResultEdges op cs directed → IsResult op cs polygons → twice_area directed ≡ area_of polygons
result_area op cs directed polygons bound is = ap twice_area (one_directed op cs directed is.directed bound is.bound) ∙ sym (polygons_area is.directed polygons is.bound.ascending is.each_edge)

pub measured_within : {M : Type 0} (limit : ℕ) (op : Op) (plan : Plan) (a b : List ℕ) (cs slice : List Counted) (directed : List DirectedEdge) (text : List ℕ) (report : Report M) (m : Measures) → Known op cs directed
    → ((o : Op) (us : List Counted) → AreLayers us → AreResultEdges o us directed → IsResultText o us text) → ReportsWithin limit plan a b cs report → slice ≡ cs → AreLayersMeasured slice m → m.twice_area ≡ twice_area directed
    → IsMeasuredWithin limit op plan a b text report m
measured_within limit op plan a b cs slice directed text report m k line reports same layers area =
    let is = line op cs k.layers k.bound in
    record {
      written = record { counted = cs; result = is; reports = reports };
      layers = subst (λ (us : List Counted). AreLayersMeasured us m) same layers;
      area = area ∙ result_area op cs directed is.polygons k.bound is.result;
    }

pub columns_measured : {M : Type 0} (limit : ℕ) (op : Op) (plan : Plan) (a b : Columns) (cs slice : List Counted) (directed : List DirectedEdge) (polygons : List Shape) (m : Measures) → Known op cs directed
    → slice ≡ cs → AreLayersMeasured slice m → m.twice_area ≡ twice_area directed → (made : ColumnsOutput M) → AreColumnsOver limit op plan a b cs polygons made → AreColumnsMeasured limit op plan a b made m
columns_measured limit op plan a b cs slice directed polygons m k same layers area made (answer, edges, shapes) = record {
  columns = answer;
  layers = subst (λ (us : List Counted). AreLayersMeasured us m) (same ∙ sym edges) layers;
  area = area ∙ result_area op answer.counted directed answer.polygons (subst (λ (us : List Counted). AreResultEdges op us directed) (sym edges) k.bound) answer.result;
}

-- ---- are one
one_area : (layer : Source) (cs ds : List Counted) (m n : ℤ) → cs ≡ ds → IsLayerArea layer cs m → IsLayerArea layer ds n → m ≡ n
one_area layer cs ds m n e h k = h.area_is
    ∙ ap twice_area (one_directed Union (map (only layer) ds) h.directed k.directed (subst (λ (us : List Counted). AreResultEdges Union (map (only layer) us) h.directed) e h.bound) k.bound)
    ∙ sym k.area_is

same_measures : (m n : LayerMeasures) → m.twice_area ≡ n.twice_area → m.steps ≡ n.steps → m ≡ n
same_measures m n h k = λ i. record { twice_area = h i; steps = k i }

one_layer : (layer : Source) (cs ds : List Counted) (m n : LayerMeasures) → cs ≡ ds → IsLayerMeasured layer cs m → IsLayerMeasured layer ds n → m ≡ n
one_layer layer cs ds m n e h k = same_measures m n (one_area layer cs ds m.twice_area n.twice_area e h.area k.area) (h.steps ∙ ap (steps_in layer) e ∙ sym k.steps)

measures_prop : (m n : Measures) → IsProp (m ≡ n)
measures_prop m n = hlevel props

pub measures_are_one : (M N : Type 0) → MeasuresAreOne M N
measures_are_one M N limit limit' op a b plan other text text' report report' m n h k =
    let w = h.written in
    let v = k.written in
    one_counted a b w.reports.grid v.reports.grid w.counted v.counted w.reports.tiles v.reports.tiles w.reports.rounded v.reports.rounded (measures_prop m n)
    (λ e i. record {
      a = one_layer A w.counted v.counted m.a n.a e h.layers.a k.layers.a i;
      b = one_layer B w.counted v.counted m.b n.b e h.layers.b k.layers.b i;
      twice_area = (h.area ∙ ap area_of (polygons_of_one op w.counted v.counted w.result.polygons v.result.polygons w.result.result v.result.result e) ∙ sym k.area) i;
    })
