-- The grid over layers has the tiles of the segments of their features.
use Rattle.std.proofs.Common.{ℕ, suc, List, [], ◌∷◌, map, sym, ap, subst, ⊎_elim}
use Rattle.std.specs.Prelude.{Contains, None, Option, Some}
use Rattle.geom.specs.declared.point.Pt.{Pt}
use Rattle.geom.specs.declared.rect.Rect.{Rect}
use Rattle.geom.specs.declared.segment.Seg.{Seg}
use Rattle.geom.specs.declared.segment.Source.{Source}
use Rattle.geom.specs.Segments.{layer_steps, parts}
use Rattle.geom.proofs.Lists.{In, contains_in, in_append, in_back, in_contains, in_front, in_map, map_in}
use Rattle.cover_law.specs.Borders.{AreFeatureSegments, feature_parts, part_of, segment_part, step_of}
use Rattle.grid.specs.Tiles.{BoundsHold, IsSide, Tiling}
use Rattle.linking.specs.Gathered.{HaveTiles}
use Rattle.linking.proofs.Covering.{have_tiles}
use Rattle.wkt.specs.Features.{all_rings}
use Rattle.layers.specs.declared.plan.Plan.{Plan}
use Rattle.layers.specs.FeatureSegments.{all_features, feature_steps}
use Rattle.layers.specs.FeatureLayers.{AreReady, IsGridOverLayers}
use Rattle.layers.specs.Grids.{AreBoundsOf}
use Rattle.layers.proofs.FeatureParts.{rings_append, steps_of_all}
use Rattle.engine.proofs.Rounding.{grid_covers, some_side}

-- a part of a feature is a step of its rings
part_step : (k : ℕ) (fs : List (List (List Pt))) (p : Pt × Pt × ℕ) → In p (feature_parts k fs) → In (p.0, p.1) (feature_steps fs)
part_step k [] p i = absurd i
part_step k (f ∷ fs) p i = subst (λ (ss : List (Pt × Pt)). In (p.0, p.1) ss) (sym (rings_append f (all_rings fs))) (⊎_elim
    (λ j. let m = in_map (part_of k) (layer_steps f) p j in
    in_front (layer_steps f) (feature_steps fs) (p.0, p.1) (subst (λ (s : Pt × Pt). In s (layer_steps f)) (ap step_of m.2) m.1))
    (λ j. in_back (layer_steps f) (feature_steps fs) (p.0, p.1) (part_step (suc k) fs p j))
    (in_append (map (part_of k) (layer_steps f)) (feature_parts (suc k) fs) p i))

segment_step : (fs : List (List (List Pt))) (segments : List Seg) (owners : List ℕ) → AreFeatureSegments fs segments owners → (s : Seg) → Contains segments s → In (s.a, s.b) (feature_steps fs)
segment_step fs segments owners are s h =
    let m = in_map segment_part (feature_parts 0 fs) (parts s) (subst (λ (ps : List (Pt × Pt × Source)). In (parts s) ps) are.parts_are (map_in parts segments s (contains_in segments s h))) in
    subst (λ (t : Pt × Pt). In t (feature_steps fs)) (ap (λ (t : Pt × Pt × Source). (t.0, t.1)) m.2) (part_step 0 fs m.0 m.1)

pub features_hold : (fs : List (List (List Pt))) (segments : List Seg) (owners : List ℕ) → AreFeatureSegments fs segments owners → (bounds : Option Rect) → AreBoundsOf (feature_steps fs) bounds → BoundsHold bounds segments
features_hold fs segments owners are None e = λ s h. subst (λ (ss : List (Pt × Pt)). In (s.a, s.b) ss) e (segment_step fs segments owners are s h)
features_hold fs segments owners are (Some r) box = λ s h. box.holds (s.a, s.b) (in_contains (feature_steps fs) (s.a, s.b) (segment_step fs segments owners are s h))

pub grid_over_covers : (layers : List (List (List (List Pt)))) (side : ℕ) (g : Tiling) (segments : List Seg) (owners : List ℕ) → IsSide side → IsGridOverLayers layers side g
    → AreFeatureSegments (all_features layers) segments owners → HaveTiles g segments
grid_over_covers layers side g segments owners s h are =
    have_tiles h.bounds g segments (grid_covers h.bounds side g (some_side side s.0) h.is_grid)
    (features_hold (all_features layers) segments owners are h.bounds
    (subst (λ (ss : List (Pt × Pt)). AreBoundsOf ss h.bounds) (sym (steps_of_all layers)) h.are_bounds))

pub layers_covered : (limit : ℕ) (plan : Plan) (texts : List (List ℕ)) (layers : List (List (List (List Pt)))) (g : Tiling) (segments : List Seg) (owners : List ℕ) → AreReady limit plan texts layers g
    → AreFeatureSegments (all_features layers) segments owners → HaveTiles g segments
layers_covered limit plan texts layers g segments owners h are = grid_over_covers layers plan.side g segments owners h.planned.side h.is_grid are
