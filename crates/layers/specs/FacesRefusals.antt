-- What the faces of layer texts are refused for, and how many features all rows have together (own).
use Rattle.std.specs.Prelude.{◌≡◌, ◌<◌, ◌≤◌, ℕ, List, length, ◌≢◌, ◌↔◌, [], AllPairs, Contains, sum_by}
use Rattle.geom.specs.declared.directed.DirectedEdge.{DirectedEdge}
use Rattle.geom.specs.declared.fault.Fault.{Fault}
use Rattle.geom.specs.declared.fault.Fault.TheVariants.{BadTile, BadWorkers, TooManySegments, TooManyTiles}
use Rattle.geom.specs.declared.point.Pt.{Pt}
use Rattle.geom.specs.declared.segment.Seg.{Seg}
use Rattle.grid.specs.Tiles.{IsSide, Tiling, most_tiles, tile_count}
use Rattle.cover_law.specs.Borders.{AreBordered, AreFeatureSegments}
use Rattle.cover_law.specs.Changing.{changing}
use Rattle.cover_law.specs.Cover.{Bordered}
use Rattle.layers.specs.declared.plan.Plan.{Plan}
use Rattle.layers.specs.declared.faces_limits.FacesLimits.{FacesLimits}
use Rattle.layers.specs.declared.faces_limits.TheConstants.{MOST_IDS}
use Rattle.layers.specs.declared.faces_fault.FacesPart.{FacesPart}
use Rattle.layers.specs.declared.faces_fault.FacesPart.TheVariants.{Layer, Run}
use Rattle.layers.specs.declared.faces_fault.FacesRefusal.{FacesRefusal}
use Rattle.layers.specs.declared.faces_fault.FacesRefusal.TheVariants.{Usual, TooManyIds}
use Rattle.layers.specs.FeatureSegments.{all_features, all_steps}
use Rattle.layers.specs.FeatureLayers.{AreReady, IsBadLayer, IsGridOverLayers, StandWithin}
use Rattle.layers.specs.Refusals.{IsCrew, IsPlan, segment_limit, text_limit}
use Rattle.cover_law.specs.Rows.{IsRowEdge}

-- the limits where none are given: the most segments of all layers together, and the most features of all rows together
abbrev pub faces_limits : FacesLimits
faces_limits = record { segments = segment_limit; ids = MOST_IDS }

-- the cover sets that have rows, each once
pub record AreSetsOfRows (count : ℕ) (edges : List Bordered) (sets : List (List ℕ)) : Type 0 where
  pub once : AllPairs (λ s t. s ≢ t) sets
  pub exact : (set : List ℕ) → Contains sets set ↔ ((set ≢ []) × (d : DirectedEdge) × IsRowEdge count edges set d)

-- so many features have the rows over these edges together
abbrev pub IsNumberOfIds : ℕ → List Bordered → ℕ → Type 0
IsNumberOfIds count edges ids = (sets : List (List ℕ)) × AreSetsOfRows count edges sets × (ids ≡ sum_by length sets)

-- So many features have all rows of the faces of these features together: the sum of the sizes of the cover sets that have a row. It can be
-- told before any row is made. Edges that are no feature's border bound no row, and are left out.
pub record HaveIds (features : List (List (List Pt))) (ids : ℕ) : Type 0 where
  pub segments : List Seg
  pub owners : List ℕ
  pub are_segments : AreFeatureSegments features segments owners
  pub edges : List Bordered
  pub are_bordered : AreBordered (length features) segments owners edges
  pub is_number : IsNumberOfIds (length features) (changing edges) ids

-- what is refused before a text is made, and where: the first of these that is at fault
pub data IsFacesRefusedAt (limits : FacesLimits) (plan : Plan) (texts : List (List ℕ)) : FacesPart → FacesRefusal → Type 0 where
  bad_tile : ¬ IsSide plan.side → IsFacesRefusedAt limits plan texts Run (Usual BadTile)
  bad_workers : IsSide plan.side → ¬ IsCrew plan.workers → IsFacesRefusedAt limits plan texts Run (Usual BadWorkers)
  bad_layer : {number : ℕ} → {fault : Fault} → IsPlan plan → IsBadLayer (text_limit limits.segments) texts number fault → IsFacesRefusedAt limits plan texts (Layer number) (Usual fault)
  too_many : IsPlan plan → (layers : List (List (List (List Pt)))) → StandWithin (text_limit limits.segments) texts layers → limits.segments < length (all_steps layers)
      → IsFacesRefusedAt limits plan texts Run (Usual (TooManySegments (length (all_steps layers))))
  too_many_tiles : IsPlan plan → (layers : List (List (List (List Pt)))) → StandWithin (text_limit limits.segments) texts layers → length (all_steps layers) ≤ limits.segments
      → (grid : Tiling) → IsGridOverLayers layers plan.side grid → most_tiles < tile_count grid → IsFacesRefusedAt limits plan texts Run (Usual (TooManyTiles (tile_count grid)))
  too_many_ids : {ids : ℕ} → (layers : List (List (List (List Pt)))) → (grid : Tiling) → AreReady limits.segments plan texts layers grid → ∥ HaveIds (all_features layers) ids ∥₁
      → limits.ids < ids → IsFacesRefusedAt limits plan texts Run (TooManyIds ids)
