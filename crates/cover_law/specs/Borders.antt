-- Rounding with features (Hobby 1999, in this project's own statement): which features each rounded edge is a border of.
use Rattle.std.specs.Prelude.{◌≡◌, ◌↔◌, ℕ, ◌<◌, ◌==◌, List, [], ◌∷◌, ◌++◌, AllPairs, Contains, count_by, filter, flat_map, if◌then◌else◌, map, suc}
use Rattle.geom.specs.declared.point.Pt.{Pt}
use Rattle.geom.specs.declared.segment.Seg.{Seg}
use Rattle.geom.specs.declared.segment.Source.{Source}
use Rattle.geom.specs.declared.segment.Source.TheVariants.{A}
use Rattle.geom.specs.declared.edge.Edge.{Edge}
use Rattle.geom.specs.EdgeOrder.{IsEdgeBefore}
use Rattle.geom.specs.Rounded.{is_odd, joins}
use Rattle.geom.specs.Route.{AreRoutes}
use Rattle.geom.specs.Segments.{layer_steps, neighbours, parts, same_point}
use Rattle.cover_law.specs.Cover.{Bordered, numbers_from}

-- the neighbours in the routes of a feature's segments: owners are the features of the segments, in their order
abbrev pub feature_steps : ℕ → List ℕ → List (List Pt) → List (Pt × Pt)
feature_steps f [] routes = []
feature_steps f (g ∷ gs) [] = []
feature_steps f (g ∷ gs) (route ∷ routes) = (if f == g then neighbours route else []) ++ feature_steps f gs routes

-- the number of places in the routes of a feature's segments where the ends of e are neighbours
abbrev pub feature_count : ℕ → Edge → List ℕ → List (List Pt) → ℕ
feature_count f e owners routes = count_by (joins e) (feature_steps f owners routes)

-- those of the first `count` features in which that is odd, ascending
abbrev pub odd_features : ℕ → Edge → List ℕ → List (List Pt) → List ℕ
odd_features count e owners routes = filter (λ f. is_odd (feature_count f e owners routes)) (numbers_from 0 count)

-- the rounded edges of all segments, ascending, each with the features whose border it is
pub record AreBordered (count : ℕ) (segments : List Seg) (owners : List ℕ) (edges : List Bordered) : Type 0 where
  pub routes : List (List Pt)
  pub are_routes : AreRoutes segments segments routes
  pub ascending : AllPairs (λ b c. IsEdgeBefore b.edge c.edge) edges
  pub exact : (b : Bordered) → Contains edges b ↔ ((b.features ≡ odd_features count b.edge owners routes) × (0 < count_by (joins b.edge) (flat_map neighbours routes)))

-- the segments of a feature
abbrev pub own_segments : ℕ → List Seg → List ℕ → List Seg
own_segments f [] owners = []
own_segments f (s ∷ ss) [] = []
own_segments f (s ∷ ss) (g ∷ gs) = (if f == g then s ∷ [] else []) ++ own_segments f ss gs

-- in the feature every point begins as many segments as it ends, as where they come from rings
abbrev pub IsClosedFeature : ℕ → List Seg → List ℕ → Type 0
IsClosedFeature f segments owners = (v : Pt) → count_by (λ s. same_point s.a v) (own_segments f segments owners) ≡ count_by (λ s. same_point s.b v) (own_segments f segments owners)

-- ---- the segments of features

-- two neighbouring points, with the feature k
abbrev pub part_of : ℕ → Pt × Pt → Pt × Pt × ℕ
part_of k step = (step.0, step.1, k)

abbrev pub step_of : Pt × Pt × ℕ → Pt × Pt
step_of p = (p.0, p.1)

abbrev pub owner_of : Pt × Pt × ℕ → ℕ
owner_of p = p.2

-- the neighbouring points that differ of the rings of features numbered from k on, each with its feature
abbrev pub feature_parts : ℕ → List (List (List Pt)) → List (Pt × Pt × ℕ)
feature_parts k [] = []
feature_parts k (rings ∷ features) = map (part_of k) (layer_steps rings) ++ feature_parts (suc k) features

-- a segment between two points: its layer plays no part
abbrev pub segment_part : Pt × Pt × ℕ → Pt × Pt × Source
segment_part p = (p.0, p.1, A)

-- the segments of features with these rings, one feature after another, and the features of the segments
pub record AreFeatureSegments (features : List (List (List Pt))) (segments : List Seg) (owners : List ℕ) : Type 0 where
  pub parts_are : map parts segments ≡ map segment_part (feature_parts 0 features)
  pub owners_are : owners ≡ map owner_of (feature_parts 0 features)
