-- The areas of an operation and of the intersection add up to those of the layers, since what each rounded edge adds does.
use Rattle.std.proofs.Common.{◌≡◌, ◌∙◌, ℕ, Bool, true, false, List, ◌++◌, map, not, refl, sym, ap, ap₂, arith, subst}
use Rattle.std.specs.List.{All}
use Rattle.std.specs.Prelude.{◌&&◌, ◌||◌, if◌then◌else◌}
use Rattle.std.proofs.Math.IntN.{ℤ, ◌+ℤ◌, ◌-ℤ◌}
use Rattle.std.proofs.Props.{props}
use Rattle.std.proofs.lemmas.Int.{ints}
use Rattle.std.proofs.lemmas.List.Elements.{All-append}
use Rattle.geom.specs.declared.point.Pt.{Pt}
use Rattle.geom.specs.declared.edge.Edge.{Edge}
use Rattle.geom.specs.declared.edge.Counted.{Counted}
use Rattle.geom.specs.declared.op.Op.{Op}
use Rattle.geom.specs.declared.op.Op.TheVariants.{Difference, Intersection, SymDifference, Union}
use Rattle.geom.specs.declared.segment.Seg.{Seg}
use Rattle.geom.specs.declared.segment.Source.{Source}
use Rattle.geom.specs.declared.segment.Source.TheVariants.{A, B}
use Rattle.geom.specs.Limit.{InLimit}
use Rattle.geom.specs.Parity.{parity}
use Rattle.geom.specs.Pixel.{Point}
use Rattle.geom.specs.ResultEdges.{holds_at}
use Rattle.geom.specs.Rounded.{edges_of, odd_edges}
use Rattle.geom.specs.Segments.{AreSegments}
use Rattle.points_law.specs.Law.{AreLayers}
use Rattle.points_law.proofs.Choices.{left, right}
use Rattle.points_law.proofs.Layers.{edges_of_layers, holds_where_odd, in_result_of, result_is_even}
use Rattle.cover_law.specs.Areas.{sum_of}
use Rattle.cover_law.proofs.BoundedAreas.{along, bounded_area, edge_area}
use Rattle.cover_law.proofs.IntegerSums.{sum_add, sum_cong, when}
use Rattle.cover_law.proofs.Told.{Told}
use Rattle.grid.specs.Tiles.{Tiling}
use Rattle.wkt.specs.LayerText.{Ring}
use Rattle.wkt.specs.Refusals.{plain}
use Rattle.wkt.proofs.Inside.{stands_in}
use Rattle.layers.specs.declared.plan.Plan.{Plan}
use Rattle.layers.specs.Grids.{AreBoundsOf}
use Rattle.layers.specs.Refusals.{IsReadyWithin}
use Rattle.layers.specs.Segments.{AllInLimit, AreSegmentsOf}
use Rattle.layers.proofs.FeatureParts.{rings_append}
use Rattle.results.proofs.Results.{layers_known}
use Rattle.results.specs.declared.text.Report.{Report}
use Rattle.engine.specs.declared.measures.Measures.{Measures}
use Rattle.engine.specs.Measures.{AddsUp, AreasAddUp, AreLayersMeasured, IsLayerArea, IsMeasuredWithin, IsResultArea, MeasuresAddUp, only}
use Rattle.engine.specs.Results.{IsResultWrittenWithin}
use Rattle.engine.proofs.Determined.{one_counted}
use Rattle.engine.proofs.LayersInLimit.{segments_in}
use Rattle.engine.proofs.Measuring.{layer_alone, layer_area_tells, result_area, same_edges}
use Rattle.engine.proofs.Rounding.{bounds_hold, layers_of, one_plain}

-- ---- what one edge adds
abbrev in_layer : Source → List Counted → Point → Bool
in_layer layer cs z = parity (odd_edges layer cs) z

abbrev of_result : Op → List Counted → Edge → ℤ
of_result op cs e = edge_area e (holds_at op cs (left e)) (holds_at op cs (right e))

abbrev of_layer : Source → List Counted → Edge → ℤ
of_layer layer cs e = edge_area e (in_layer layer cs (left e)) (in_layer layer cs (right e))

told : (op : Op) (cs : List Counted) (h : AreLayers cs) → Told (edges_of cs) false (λ z. holds_at op cs z)
told op cs h = record { choice = in_result_of op cs h; even = result_is_even op cs h; told = λ z. holds_where_odd op cs h z }

by_edges : (op : Op) (cs : List Counted) → AreLayers cs → (area : ℤ) → IsResultArea op cs area → area ≡ sum_of (of_result op cs) (edges_of cs)
by_edges op cs h area is = is.area_is
    ∙ bounded_area (edges_of cs) (edges_of_layers op cs h) (told op cs h) is.directed is.bound.ascending
    (λ d. (
      (λ c. let b = (is.bound.exact d).0 c in record { edge = b.edge; inside = b.rounded; runs = b.runs; bounds = b.bounds }),
      (λ b. (is.bound.exact d).1 (record { edge = b.edge; rounded = b.inside; runs = b.runs; bounds = b.bounds })),
    ))
    is.directed (λ test. refl)

own_by_edges : (layer : Source) (cs : List Counted) → AreLayers cs → (area : ℤ) → IsLayerArea layer cs area → area ≡ sum_of (of_layer layer cs) (edges_of cs)
own_by_edges layer cs h area is =
    by_edges Union (map (only layer) cs) (layer_alone layer cs h) area (record { directed = is.directed; bound = is.bound; area_is = is.area_is })
    ∙ sum_cong (of_result Union (map (only layer) cs)) (of_layer layer cs) (edges_of (map (only layer) cs))
    (λ e i. ap (λ (t : Bool). edge_area e t (holds_at Union (map (only layer) cs) (right e))) (layer_area_tells layer cs (left e))
    ∙ ap (λ (t : Bool). edge_area e (in_layer layer cs (left e)) t) (layer_area_tells layer cs (right e)))
    ∙ ap (sum_of (of_layer layer cs)) (same_edges layer cs)

-- ---- on one side of an edge
union_side : (c : ℤ) (s t : Bool) → when (s || t) c +ℤ when (s && t) c ≡ when s c +ℤ when t c
union_side c true true = omega (arith, ints)
union_side c true false = omega (arith, ints)
union_side c false true = omega (arith, ints)
union_side c false false = omega (arith, ints)

first_side : (c : ℤ) (s t : Bool) → when (s && not t) c +ℤ when (s && t) c ≡ when s c
first_side c true true = omega (arith, ints)
first_side c true false = omega (arith, ints)
first_side c false true = omega (arith, ints)
first_side c false false = omega (arith, ints)

either_side : (c : ℤ) (s t : Bool) → when (if s then not t else t) c +ℤ (when (s && t) c +ℤ when (s && t) c) ≡ when s c +ℤ when t c
either_side c true true = omega (arith, ints)
either_side c true false = omega (arith, ints)
either_side c false true = omega (arith, ints)
either_side c false false = omega (arith, ints)

-- ---- on both sides
four : (p q r u a b c d : ℤ) → p +ℤ r ≡ a +ℤ c → q +ℤ u ≡ b +ℤ d → (p -ℤ q) +ℤ (r -ℤ u) ≡ (a -ℤ b) +ℤ (c -ℤ d)
four p q r u a b c d h k = omega (arith, ints)

three : (p q r u a b : ℤ) → p +ℤ r ≡ a → q +ℤ u ≡ b → (p -ℤ q) +ℤ (r -ℤ u) ≡ a -ℤ b
three p q r u a b h k = omega (arith, ints)

twice : (p q r u a b c d : ℤ) → p +ℤ (r +ℤ r) ≡ a +ℤ c → q +ℤ (u +ℤ u) ≡ b +ℤ d → (p -ℤ q) +ℤ ((r -ℤ u) +ℤ (r -ℤ u)) ≡ (a -ℤ b) +ℤ (c -ℤ d)
twice p q r u a b c d h k = omega (arith, ints)

union_edge : (e : Edge) (s t v w : Bool) → edge_area e (s || t) (v || w) +ℤ edge_area e (s && t) (v && w) ≡ edge_area e s v +ℤ edge_area e t w
union_edge e s t v w = four (when (s || t) (along e)) (when (v || w) (along e)) (when (s && t) (along e)) (when (v && w) (along e)) (when s (along e)) (when v (along e)) (when t (along e)) (when w (along e))
    (union_side (along e) s t) (union_side (along e) v w)

first_edge : (e : Edge) (s t v w : Bool) → edge_area e (s && not t) (v && not w) +ℤ edge_area e (s && t) (v && w) ≡ edge_area e s v
first_edge e s t v w = three (when (s && not t) (along e)) (when (v && not w) (along e)) (when (s && t) (along e)) (when (v && w) (along e)) (when s (along e)) (when v (along e))
    (first_side (along e) s t) (first_side (along e) v w)

either_edge : (e : Edge) (s t v w : Bool) → edge_area e (if s then not t else t) (if v then not w else w) +ℤ (edge_area e (s && t) (v && w) +ℤ edge_area e (s && t) (v && w)) ≡ edge_area e s v +ℤ edge_area e t w
either_edge e s t v w = twice (when (if s then not t else t) (along e)) (when (if v then not w else w) (along e)) (when (s && t) (along e)) (when (v && w) (along e)) (when s (along e)) (when v (along e)) (when t (along e)) (when w (along e))
    (either_side (along e) s t) (either_side (along e) v w)

-- ---- over all edges
module _ (cs : List Counted) (h : AreLayers cs) (m : Measures) (of : AreLayersMeasured cs m) (both : ℤ) (inner : IsResultArea Intersection cs both) where
  abbrev es : List Edge
  es = edges_of cs

  both_is : both ≡ sum_of (of_result Intersection cs) es
  both_is = by_edges Intersection cs h both inner

  a_is : m.a.twice_area ≡ sum_of (of_layer A cs) es
  a_is = own_by_edges A cs h m.a.twice_area of.a.area

  b_is : m.b.twice_area ≡ sum_of (of_layer B cs) es
  b_is = own_by_edges B cs h m.b.twice_area of.b.area

  layers_are : sum_of (λ e. of_layer A cs e +ℤ of_layer B cs e) es ≡ m.a.twice_area +ℤ m.b.twice_area
  layers_are = sum_add (of_layer A cs) (of_layer B cs) es ∙ sym (ap₂ (λ (x y : ℤ). x +ℤ y) a_is b_is)

  pub adds_up : (op : Op) → IsResultArea op cs m.twice_area → AddsUp op both m
  adds_up Union is =
      ap₂ (λ (x y : ℤ). x +ℤ y) (by_edges Union cs h m.twice_area is) both_is
      ∙ sym (sum_add (of_result Union cs) (of_result Intersection cs) es)
      ∙ sum_cong (λ e. of_result Union cs e +ℤ of_result Intersection cs e) (λ e. of_layer A cs e +ℤ of_layer B cs e) es
      (λ e i. union_edge e (in_layer A cs (left e)) (in_layer B cs (left e)) (in_layer A cs (right e)) (in_layer B cs (right e)))
      ∙ layers_are
  adds_up Intersection is = by_edges Intersection cs h m.twice_area is ∙ sym both_is
  adds_up Difference is =
      ap₂ (λ (x y : ℤ). x +ℤ y) (by_edges Difference cs h m.twice_area is) both_is
      ∙ sym (sum_add (of_result Difference cs) (of_result Intersection cs) es)
      ∙ sum_cong (λ e. of_result Difference cs e +ℤ of_result Intersection cs e) (of_layer A cs) es
      (λ e i. first_edge e (in_layer A cs (left e)) (in_layer B cs (left e)) (in_layer A cs (right e)) (in_layer B cs (right e)))
      ∙ sym a_is
  adds_up SymDifference is =
      ap₂ (λ (x y : ℤ). x +ℤ (y +ℤ y)) (by_edges SymDifference cs h m.twice_area is) both_is
      ∙ ap (λ (x : ℤ). sum_of (of_result SymDifference cs) es +ℤ x) (sym (sum_add (of_result Intersection cs) (of_result Intersection cs) es))
      ∙ sym (sum_add (of_result SymDifference cs) (λ e. of_result Intersection cs e +ℤ of_result Intersection cs e) es)
      ∙ sum_cong (λ e. of_result SymDifference cs e +ℤ (of_result Intersection cs e +ℤ of_result Intersection cs e)) (λ e. of_layer A cs e +ℤ of_layer B cs e) es
      (λ e i. either_edge e (in_layer A cs (left e)) (in_layer B cs (left e)) (in_layer A cs (right e)) (in_layer B cs (right e)))
      ∙ layers_are

pub areas_add_up : AreasAddUp
areas_add_up op counted h m both is of inner = adds_up counted h m of both inner op is

-- ---- of texts
segments_in_limit : (limit : ℕ) (plan : Plan) (a b : List ℕ) (rings_a rings_b : List Ring) (g : Tiling) (segments : List Seg) → IsReadyWithin limit plan a b rings_a rings_b g → AreSegmentsOf a b segments → AllInLimit segments
segments_in_limit limit plan a b rings_a rings_b g segments h s =
    let x = one_plain a s.rings_a rings_a s.accepted_a h.accepted_a.accepted in
    let y = one_plain b s.rings_b rings_b s.accepted_b h.accepted_b.accepted in
    let bounds = h.is_grid.bounds in
    segments_in bounds segments (plain rings_a ++ plain rings_b)
    (bounds_hold (plain rings_a) (plain rings_b) segments
    (subst (λ (p : List (List Pt)). AreSegments p (plain rings_b) segments) x (subst (λ (p : List (List Pt)). AreSegments (plain s.rings_a) p segments) y s.are_segments))
    bounds h.is_grid.are_bounds)
    (subst (λ (steps : List (Pt × Pt)). AreBoundsOf steps bounds) (sym (rings_append (plain rings_a) (plain rings_b))) h.is_grid.are_bounds)
    (All-append (λ (ring : List Pt). All InLimit ring) (plain rings_a) (plain rings_b)
    (stands_in a (plain rings_a) (rings_a, h.accepted_a.accepted, refl)) (stands_in b (plain rings_b) (rings_b, h.accepted_b.accepted, refl)))

written_layers : {M : Type 0} (limit : ℕ) (op : Op) (plan : Plan) (a b : List ℕ) (text : List ℕ) (report : Report M) (w : IsResultWrittenWithin limit op plan a b text report) → AreLayers w.counted
written_layers limit op plan a b text report w =
    let r = w.reports in
    layers_known w.counted (layers_of a b r.rounded.segments w.counted r.rounded.are_segments
    (segments_in_limit limit plan a b r.rings_a r.rings_b r.grid r.rounded.segments r.ready r.rounded.are_segments) r.rounded.rounded)

measured_area : {M : Type 0} (limit : ℕ) (op : Op) (plan : Plan) (a b : List ℕ) (text : List ℕ) (report : Report M) (m : Measures) (h : IsMeasuredWithin limit op plan a b text report m) → IsResultArea op h.written.counted m.twice_area
measured_area limit op plan a b text report m h =
    let t = h.written.result in
    record { directed = t.result.directed; bound = t.result.bound; area_is = h.area ∙ sym (result_area op h.written.counted t.result.directed t.polygons t.result.bound t.result) }

adds_prop : (op : Op) (both : ℤ) (m : Measures) → IsProp (AddsUp op both m)
adds_prop Union both m = hlevel props
adds_prop Intersection both m = hlevel props
adds_prop Difference both m = hlevel props
adds_prop SymDifference both m = hlevel props

pub measures_add_up : (M N : Type 0) → MeasuresAddUp M N
measures_add_up M N limit limit' op a b plan other text text' report report' m n h k =
    let w = h.written in
    let v = k.written in
    one_counted a b w.reports.grid v.reports.grid w.counted v.counted w.reports.tiles v.reports.tiles w.reports.rounded v.reports.rounded (adds_prop op n.twice_area m)
    (λ e. adds_up w.counted (written_layers limit op plan a b text report w) m h.layers n.twice_area
    (subst (λ (cs : List Counted). IsResultArea Intersection cs n.twice_area) (sym e) (measured_area limit' Intersection other a b text' report' n k)) op
    (measured_area limit op plan a b text report m h))
