-- From two texts that were checked to what the theorems say of their rounded edges.
use Rattle.std.proofs.Common.{◌≡◌, ℕ, List, ◌++◌, map, ◌<◌, ◌≤◌, refl, subst, ap, arith, ⊎_elim}
use Rattle.std.proofs.Math.Logic.{∥∥₁_map}
use Rattle.std.specs.Prelude.{Contains, None, Option, Some}
use Rattle.geom.specs.Rounded.{AreRounded}
use Rattle.geom.specs.Segments.{AreSegments, layer_steps, parts, tagged}
use Rattle.geom.specs.declared.edge.Counted.{Counted}
use Rattle.geom.specs.declared.point.Pt.{Pt}
use Rattle.geom.specs.declared.rect.Rect.{Rect}
use Rattle.geom.specs.declared.segment.Seg.{Seg}
use Rattle.geom.specs.declared.segment.Source.{Source}
use Rattle.geom.specs.declared.segment.Source.TheVariants.{A, B}
use Rattle.geom.proofs.Lists.{In, contains_in, in_append, in_contains, in_map, map_in, in_front, in_back}
use Rattle.noding_law.proofs.Rounding.{rounded_noded}
use Rattle.points_law.specs.Law.{AreLayers}
use Rattle.points_law.proofs.ClosedSegments.{rings_closed}
use Rattle.points_law.proofs.RoundedLayers.{rounded_layers}
use Rattle.grid.specs.Tiles.{BoundsHold, CoversBounds, IsGridOf, Tiling}
use Rattle.grid.proofs.Columns.{covers}
use Rattle.linking.specs.Gathered.{HaveTiles}
use Rattle.linking.proofs.Covering.{have_tiles}
use Rattle.wkt.specs.LayerText.{Ring}
use Rattle.wkt.specs.Refusals.{IsAccepted, plain}
use Rattle.wkt.proofs.Exclusive.{same_reading}
use Rattle.layers.specs.Segments.{AllInLimit, AreSegmentsOf}
use Rattle.layers.specs.Grids.{AreBoundsOf}
use Rattle.layers.specs.Refusals.{IsReadyWithin}
use Rattle.layers.specs.declared.plan.Plan.{Plan}

-- ---- the bounds hold the segments

-- a step that is tagged as a segment has its ends
ends_of : (layer : Source) (steps : List (Pt × Pt)) (s : Seg) → In (parts s) (map (tagged layer) steps) → In (s.a, s.b) steps
ends_of layer steps s i =
    let m = in_map (tagged layer) steps (parts s) i in
    let a : m.0.0 ≡ s.a = ap (λ (t : Pt × Pt × Source). t.0) m.2 in
    let b : m.0.1 ≡ s.b = ap (λ (t : Pt × Pt × Source). t.1) m.2 in
    let e : m.0 ≡ (s.a, s.b) = (λ j. (a j, b j)) in
    subst (λ (t : Pt × Pt). In t steps) e m.1

step_of : (a b : List (List Pt)) (segments : List Seg) → AreSegments a b segments → (s : Seg) → Contains segments s → In (s.a, s.b) (layer_steps a ++ layer_steps b)
step_of a b segments are s h = ⊎_elim
    (λ i. in_front (layer_steps a) (layer_steps b) (s.a, s.b) (ends_of A (layer_steps a) s i))
    (λ i. in_back (layer_steps a) (layer_steps b) (s.a, s.b) (ends_of B (layer_steps b) s i))
    (in_append (map (tagged A) (layer_steps a)) (map (tagged B) (layer_steps b)) (parts s)
    (subst (λ (ts : List (Pt × Pt × Source)). In (parts s) ts) are (map_in parts segments s (contains_in segments s h))))

pub bounds_hold : (a b : List (List Pt)) (segments : List Seg) → AreSegments a b segments → (bounds : Option Rect) → AreBoundsOf (layer_steps a ++ layer_steps b) bounds → BoundsHold bounds segments
bounds_hold a b segments are None e = λ s h. subst (λ (ts : List (Pt × Pt)). In (s.a, s.b) ts) e (step_of a b segments are s h)
bounds_hold a b segments are (Some r) box = λ s h. box.holds (s.a, s.b) (in_contains (layer_steps a ++ layer_steps b) (s.a, s.b) (step_of a b segments are s h))

-- a text has one list of rings
pub one_plain : (text : List ℕ) (rings other : List Ring) → IsAccepted text rings → IsAccepted text other → plain rings ≡ plain other
one_plain text rings other h k = same_reading text (plain rings) (plain other) (rings, h, refl) (other, k, refl)

-- the tiles of a grid over bounds have every point of them
pub grid_covers : (bounds : Option Rect) (side : ℕ) (g : Tiling) → 0 < side → IsGridOf bounds side g → CoversBounds bounds g
grid_covers None side g l h = tt
grid_covers (Some r) side g l h = covers r side g l h

pub some_side : (side : ℕ) → 16 ≤ side → 0 < side
some_side side h = omega (arith, h)

pub covered : (limit : ℕ) (plan : Plan) (a b : List ℕ) (rings_a rings_b : List Ring) (g : Tiling) (segments : List Seg) → IsReadyWithin limit plan a b rings_a rings_b g → AreSegmentsOf a b segments → HaveTiles g segments
covered limit plan a b rings_a rings_b g segments h s =
    let x = one_plain a s.rings_a rings_a s.accepted_a h.accepted_a.accepted in
    let y = one_plain b s.rings_b rings_b s.accepted_b h.accepted_b.accepted in
    have_tiles h.is_grid.bounds g segments (grid_covers h.is_grid.bounds plan.side g (some_side plan.side h.planned.side.0) h.is_grid.is_grid) (bounds_hold (plain rings_a) (plain rings_b) segments
    (subst (λ (p : List (List Pt)). AreSegments p (plain rings_b) segments) x (subst (λ (p : List (List Pt)). AreSegments (plain s.rings_a) p segments) y s.are_segments))
    h.is_grid.bounds h.is_grid.are_bounds)

-- ---- layers

pub layers_of_rings : (a b : List (List Pt)) (segments : List Seg) (counted : List Counted) → AreSegments a b segments → AllInLimit segments → ∥ AreRounded segments counted ∥₁ → ∥ AreLayers counted ∥₁
layers_of_rings a b segments counted s limits r =
    ∥∥₁_map r (λ h. rounded_layers segments counted h limits (rings_closed a b segments s A) (rings_closed a b segments s B) (rounded_noded segments counted h))

pub layers_of : (a b : List ℕ) (segments : List Seg) (counted : List Counted) → AreSegmentsOf a b segments → AllInLimit segments → ∥ AreRounded segments counted ∥₁ → ∥ AreLayers counted ∥₁
layers_of a b segments counted s limits r = layers_of_rings (plain s.rings_a) (plain s.rings_b) segments counted s.are_segments limits r
