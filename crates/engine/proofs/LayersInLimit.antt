-- The segments of the features of layers lie within the coordinate limit, since the texts do.
use Rattle.std.proofs.Common.{ℕ, List, [], ◌∷◌, inl, inr, arith, subst, sym, ℤ}
use Rattle.std.specs.List.{All}
use Rattle.std.specs.Prelude.{None, Option, Some, ◌≤ℤ◌}
use Rattle.std.proofs.lemmas.List.Elements.{All-contains}
use Rattle.geom.specs.declared.point.Pt.{Pt}
use Rattle.geom.specs.declared.rect.Rect.{Rect}
use Rattle.geom.specs.declared.segment.Seg.{Seg}
use Rattle.geom.specs.Box.{IsInBox}
use Rattle.geom.specs.Limit.{AreInLimit, InLimit}
use Rattle.geom.specs.Segments.{layer_steps}
use Rattle.geom.proofs.Integers.{linear}
use Rattle.geom.proofs.Lists.{In, in_contains}
use Rattle.geom.proofs.Owners.{all_in}
use Rattle.geom.proofs.RingEdges.{flat_in, in_flat}
use Rattle.cover_law.specs.Borders.{AreFeatureSegments}
use Rattle.grid.specs.Tiles.{BoundsHold, Tiling}
use Rattle.wkt.specs.Features.{all_rings}
use Rattle.wkt.proofs.Cuts.{stands_joined}
use Rattle.wkt.proofs.Inside.{box_in, stands_in}
use Rattle.layers.specs.declared.plan.Plan.{Plan}
use Rattle.layers.specs.FeatureSegments.{all_features}
use Rattle.layers.specs.FeatureLayers.{AreReady, StandForLayers}
use Rattle.layers.specs.Segments.{AllInLimit, AreRingsInLimit}
use Rattle.layers.specs.Grids.{AreBoundsOf}
use Rattle.engine.proofs.CoveredFeatures.{features_hold}
use Rattle.layers.proofs.FeatureParts.{steps_of_all}

-- ---- the rings
layer_in_limit : (texts : List (List ℕ)) (layers : List (List (List (List Pt)))) → StandForLayers texts layers → (layer : List (List (List Pt))) → In layer layers → AreRingsInLimit (all_rings layer)
layer_in_limit [] [] h layer i = absurd i
layer_in_limit [] (l ∷ ls) h layer i = absurd h
layer_in_limit (t ∷ ts) [] h layer i = absurd i
layer_in_limit (t ∷ ts) (l ∷ ls) h layer (inl e) = subst (λ (x : List (List (List Pt))). AreRingsInLimit (all_rings x)) e (stands_in t (all_rings l) (stands_joined t l h.0))
layer_in_limit (t ∷ ts) (l ∷ ls) h layer (inr i) = layer_in_limit ts ls h.1 layer i

rings_in_limit : (texts : List (List ℕ)) (layers : List (List (List (List Pt)))) → StandForLayers texts layers → AreRingsInLimit (all_rings (all_features layers))
rings_in_limit texts layers h = all_in (λ (ring : List Pt). All InLimit ring) (all_rings (all_features layers)) (λ ring i.
    let m = flat_in (λ (rings : List (List Pt)). rings) (all_features layers) ring i in
    let n = flat_in (λ (features : List (List (List Pt))). features) layers m.0 m.1 in
    All-contains (λ (r : List Pt). All InLimit r) (all_rings n.0) ring (layer_in_limit texts layers h n.0 n.1)
    (in_contains (all_rings n.0) ring (in_flat (λ (rings : List (List Pt)). rings) n.0 m.0 ring n.2 m.2)))

-- ---- the segments, which lie in the box of the rings
between : (x y z : ℤ) → x ≤ℤ y → y ≤ℤ z → x ≤ℤ z
between x y z h k = omega (arith, linear, h, k)

in_box : (r : Rect) (p : Pt) → AreInLimit r.lo r.hi → IsInBox r.lo r.hi p → InLimit p
in_box r p l b = record {
  x_in = record { low = between _ r.lo.x p.x l.a_in.x_in.low b.left; high = between p.x r.hi.x _ b.right l.b_in.x_in.high };
  y_in = record { low = between _ r.lo.y p.y l.a_in.y_in.low b.bottom; high = between p.y r.hi.y _ b.top l.b_in.y_in.high };
}

pub segments_in : (bounds : Option Rect) (segments : List Seg) (rings : List (List Pt)) → BoundsHold bounds segments → AreBoundsOf (layer_steps rings) bounds → AreRingsInLimit rings → AllInLimit segments
segments_in None segments rings hold e h = all_in (λ (s : Seg). AreInLimit s.a s.b) segments (λ s i. absurd (hold s (in_contains segments s i)))
segments_in (Some r) segments rings hold box h = all_in (λ (s : Seg). AreInLimit s.a s.b) segments (λ s i.
    let l = box_in rings r h box in
    let k = hold s (in_contains segments s i) in
    record { a_in = in_box r s.a l k.0; b_in = in_box r s.b l k.1 })

pub layers_in_limit : (limit : ℕ) (plan : Plan) (texts : List (List ℕ)) (layers : List (List (List (List Pt)))) (g : Tiling) (segments : List Seg) (owners : List ℕ) → AreReady limit plan texts layers g
    → AreFeatureSegments (all_features layers) segments owners → AllInLimit segments
layers_in_limit limit plan texts layers g segments owners h are =
    let bounds = h.is_grid.bounds in
    let of_features : AreBoundsOf (layer_steps (all_rings (all_features layers))) bounds = subst (λ (ss : List (Pt × Pt)). AreBoundsOf ss bounds) (sym (steps_of_all layers)) h.is_grid.are_bounds in
    segments_in bounds segments (all_rings (all_features layers)) (features_hold (all_features layers) segments owners are bounds of_features) of_features (rings_in_limit texts layers h.stand)
