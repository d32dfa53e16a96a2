-- The segments of the features of layers, as they are listed (own).
use Rattle.std.specs.Prelude.{◌≡◌, ◌≤◌, ◌-◌, ◌++◌, ℕ, List, length, map, replicate}
use Rattle.std.specs.List.{flat_map}
use Rattle.geom.specs.declared.point.Pt.{Pt}
use Rattle.geom.specs.Segments.{layer_steps}
use Rattle.cover_law.specs.Borders.{AreFeatureSegments}
use Rattle.wkt.specs.Features.{all_rings}
use Rattle.layers.specs.declared.feature_segments.FeatureSegments.{FeatureSegments}
use Rattle.layers.specs.Segments.{AllInLimit}

-- the features of all layers, those of the first one first
abbrev pub all_features : List (List (List (List Pt))) → List (List (List Pt))
all_features layers = flat_map (λ features. features) layers

-- the steps of a layer with these features
abbrev pub feature_steps : List (List (List Pt)) → List (Pt × Pt)
feature_steps features = layer_steps (all_rings features)

-- those of all layers
abbrev pub all_steps : List (List (List (List Pt))) → List (Pt × Pt)
all_steps layers = flat_map feature_steps layers

-- an owner for each segment, segments within the limit, and no more features than a set takes
pub record AreOwned {M : Type 0} (s : FeatureSegments M) : Type 0 where
  pub one_each : length s.owners.items ≡ length s.segments.items
  pub in_limit : AllInLimit s.segments.items
  pub few : s.features ≤ 2147483647

-- the segments of these features with their owners
pub record AreSegmentsFrom {M : Type 0} (features : List (List (List Pt))) (s : FeatureSegments M) : Type 0 where
  pub are_segments : AreFeatureSegments features s.segments.items s.owners.items
  pub count : s.features ≡ length features

-- those of the features of these layers, with the sizes of the layers
pub record AreFeaturesOf {M : Type 0} (layers : List (List (List (List Pt)))) (s : FeatureSegments M) : Type 0 where
  pub owned : AreOwned s
  pub all : AreSegmentsFrom (all_features layers) s
  pub features_are : map (λ z. z.features) s.sizes.items ≡ map (λ features. length features) layers
  pub segments_are : map (λ z. z.segments) s.sizes.items ≡ map (λ features. length (feature_steps features)) layers

-- an owner behind others, until there are so many
abbrev pub HaveOwners : List ℕ → ℕ → ℕ → List ℕ → Type 0
HaveOwners old count owner new = new ≡ old ++ replicate (count - length old) owner
