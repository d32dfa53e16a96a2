-- Layer texts as lists of features: what is read and checked of them (own).
use Rattle.std.specs.Prelude.{◌≡◌, ◌<◌, ◌≤◌, ℕ, All, IfSome, List, Option, Result, Some, Vec, MatchResult, length, slice_get, take}
use Rattle.std.specs.List.{AllZip}
use Rattle.geom.specs.declared.fault.Fault.{Fault}
use Rattle.geom.specs.declared.fault.Fault.TheVariants.{TooManyTiles}
use Rattle.geom.specs.declared.point.Pt.{Pt}
use Rattle.geom.specs.declared.rect.Rect.{Rect}
use Rattle.grid.specs.Tiles.{AreBounds, IsGridOf, Tiling, most_tiles, tile_count}
use Rattle.wkt.specs.Features.{StandsForFeatures}
use Rattle.wkt.specs.Refusals.{IsRefusedWithin}
use Rattle.wkt.specs.declared.features.OutlinedFeatures.{OutlinedFeatures}
use Rattle.layers.specs.declared.plan.Plan.{Plan}
use Rattle.layers.specs.declared.faces_fault.FacesFault.{FacesFault}
use Rattle.layers.specs.declared.faces_fault.FacesPart.TheVariants.{Layer, Run}
use Rattle.layers.specs.declared.faces_fault.FacesRefusal.TheVariants.{Usual}
use Rattle.layers.specs.declared.feature_reading.ReadLayers.{ReadLayers}
use Rattle.layers.specs.FeatureSegments.{all_steps}
use Rattle.layers.specs.Grids.{AreBoundsOf}
use Rattle.layers.specs.Segments.{AreRingsInLimit}
use Rattle.layers.specs.Refusals.{HasOutlineWithin, IsPlan, text_limit}

-- the texts stand for these layers, each a list of features, each of which is a list of rings
abbrev pub StandForLayers : List (List ℕ) → List (List (List (List Pt))) → Type 0
StandForLayers texts layers = AllZip StandsForFeatures texts layers

-- the texts have no more bytes than the limit each
abbrev pub AreShort : ℕ → List (List ℕ) → Type 0
AreShort limit texts = All (λ text. length text ≤ limit) texts

-- and stand for these layers
pub record StandWithin (limit : ℕ) (texts : List (List ℕ)) (layers : List (List (List (List Pt)))) : Type 0 where
  pub short : AreShort limit texts
  pub stand : StandForLayers texts layers

-- the grid of this side over the segments of the layers
pub record IsGridOverLayers (layers : List (List (List (List Pt)))) (side : ℕ) (g : Tiling) : Type 0 where
  pub bounds : Option Rect
  pub are_bounds : AreBoundsOf (all_steps layers) bounds
  pub is_grid : IsGridOf bounds side g

-- the plan is within its limits, and so are the texts, which stand for these layers with at most so many segments together, and the grid over them
pub record AreReady (limit : ℕ) (plan : Plan) (texts : List (List ℕ)) (layers : List (List (List (List Pt)))) (grid : Tiling) : Type 0 where
  pub planned : IsPlan plan
  pub short : AreShort (text_limit limit) texts
  pub stand : StandForLayers texts layers
  pub few : length (all_steps layers) ≤ limit
  pub is_grid : IsGridOverLayers layers plan.side grid
  pub few_tiles : tile_count grid ≤ most_tiles

-- nothing is refused before the layers are rounded
abbrev pub MayRound : ℕ → Plan → List (List ℕ) → Type 0
MayRound limit plan texts = (layers : List (List (List (List Pt)))) × (grid : Tiling) × AreReady limit plan texts layers grid

-- the layer at fault is the first one that is refused within a limit of bytes
pub record IsBadLayer (limit : ℕ) (texts : List (List ℕ)) (number : ℕ) (fault : Fault) : Type 0 where
  pub text : List ℕ
  pub is_at : slice_get texts number ≡ Some text
  pub refused : IsRefusedWithin limit text fault
  pub before : List (List (List (List Pt)))
  pub accepted : StandWithin limit (take number texts) before

-- each point of the features is within the coordinate limit
abbrev pub AreFeaturesInLimit : List (List (List Pt)) → Type 0
AreFeaturesInLimit features = All AreRingsInLimit features

-- what was read of a layer text within a limit of bytes: its outline, with its features where they were kept, or why it is refused
abbrev pub IsFeatureReading : {M : Type 0} → ℕ → List ℕ → Result (OutlinedFeatures M) Fault → Type 0
IsFeatureReading limit text reading = MatchResult reading
    (λ read. HasOutlineWithin limit text read.outline × AreBounds read.outline.bounds × IfSome read.features (λ f. StandsForFeatures text f × AreFeaturesInLimit f))
    (λ fault. IsRefusedWithin limit text fault)

-- the features of each layer, where they were kept
abbrev pub AreKept : List (List ℕ) → List (Option (List (List (List Pt)))) → Type 0
AreKept texts kept = AllZip (λ text f. IfSome f (λ features. StandsForFeatures text features × AreFeaturesInLimit features)) texts kept

-- the same, where there was room for the list
abbrev pub HaveKept : {M : Type 0} → List (List ℕ) → Option (Vec (Option (List (List (List Pt)))) M) → Type 0
HaveKept texts kept = IfSome kept (λ list. AreKept texts list.items)

-- what was read of layers that are accepted within a limit of bytes
pub record AreReadLayers {M : Type 0} (limit : ℕ) (texts : List (List ℕ)) (r : ReadLayers M) : Type 0 where
  pub layers : List (List (List (List Pt)))
  pub short : AreShort limit texts
  pub stand : StandForLayers texts layers
  pub segments : r.segments ≡ length (all_steps layers)
  pub bounds : AreBoundsOf (all_steps layers) r.bounds
  pub in_limit : AreBounds r.bounds
  pub kept : HaveKept texts r.kept

-- the first layer that is refused, as it is told
abbrev pub TellsBadLayer : ℕ → List (List ℕ) → FacesFault → Type 0
TellsBadLayer limit texts f = (number : ℕ) × (fault : Fault) × (f.at ≡ Layer number) × (f.refusal ≡ Usual fault) × IsBadLayer limit texts number fault

-- the plan, the layers and this grid over them are within their limits, and the layers have so many segments
abbrev pub AreCheckedLayers : ℕ → Plan → List (List ℕ) → ℕ → Tiling → Type 0
AreCheckedLayers limit plan texts segments grid = (layers : List (List (List (List Pt)))) × AreReady limit plan texts layers grid × (segments ≡ length (all_steps layers))

-- the grid of this side over these bounds has few tiles
abbrev pub IsFewTiles : Option Rect → ℕ → Tiling → Type 0
IsFewTiles bounds side g = IsGridOf bounds side g × (tile_count g ≤ most_tiles)

-- it has too many, which is told
abbrev pub TellsManyTiles : Option Rect → ℕ → FacesFault → Type 0
TellsManyTiles bounds side f = (g : Tiling) × IsGridOf bounds side g × (most_tiles < tile_count g) × (f.at ≡ Run) × (f.refusal ≡ Usual (TooManyTiles (tile_count g)))
