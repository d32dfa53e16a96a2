-- What is gathered from the tiles of a grid (own).
use Rattle.std.specs.Prelude.{◌≡◌, ◌≢◌, ◌↔◌, ℕ, ◌<◌, List, AllPairs, Contains, Some, length, map, slice_get, sum_by}
use Rattle.geom.specs.declared.point.Pt.{Pt}
use Rattle.geom.specs.declared.rect.Rect.{Rect}
use Rattle.geom.specs.declared.segment.Seg.{Seg}
use Rattle.geom.specs.Hot.{IsHot}
use Rattle.geom.specs.Box.{IsInBox, greatest_corner, least_corner}
use Rattle.grid.specs.Tiles.{Tiling, Owns, HasTile}
use Rattle.routing.specs.declared.record.Record.{Record}
use Rattle.routing.specs.Pieces.{IsInnerRecord, IsRecord, IsPieceOf}
use Rattle.linking.specs.Links.{times_at}
use Rattle.linking.specs.declared.rounded.TileNumbers.{TileNumbers}

-- ---- what a caller hands in

abbrev pub corners : Rect → Pt × Pt
corners b = (b.lo, b.hi)

abbrev pub box_corners : Seg → Pt × Pt
box_corners s = (least_corner s.a s.b, greatest_corner s.a s.b)

-- the boxes are those of the items, in their order: box gives the two corners of an item's
abbrev pub AreBoxesBy : {X : Type 0} → (X → Pt × Pt) → List X → List Rect → Type 0
AreBoxesBy box items boxes = map corners boxes ≡ map box items

-- the least boxes of the segments, in their order
abbrev pub AreBoxesOf : List Seg → List Rect → Type 0
AreBoxesOf segments boxes = AreBoxesBy box_corners segments boxes

-- every point of each segment's box has a tile
abbrev pub HaveTiles : Tiling → List Seg → Type 0
HaveTiles g segments = (s : Seg) (p : Pt) → Contains segments s → IsInBox (least_corner s.a s.b) (greatest_corner s.a s.b) p → HasTile g p

-- ---- what tiles have

-- the numbers of the tiles below limit: how many hot pixels each owns, and how many records it has
pub record AreTileNumbers (g : Tiling) (segments : List Seg) (limit : ℕ) (tiles : List TileNumbers) : Type 0 where
  pub one_each : length tiles ≡ limit
  pub each : (k : ℕ) (n : TileNumbers) → slice_get tiles k ≡ Some n → ∥ ((records : List Record) × IsPieceOf (Owns g k) segments n.hot records × (n.records ≡ length records)) ∥₁

-- the same, where each record counts as often as what stands for its segment says
pub record AreTileNumbersBy {M : Type 0} (times_of : M → ℕ) (g : Tiling) (segments : List Seg) (makers : List M) (limit : ℕ) (tiles : List TileNumbers) : Type 0 where
  pub one_each : length tiles ≡ limit
  pub each : (k : ℕ) (n : TileNumbers) → slice_get tiles k ≡ Some n → ∥ ((records : List Record) × IsPieceOf (Owns g k) segments n.hot records × (n.records ≡ sum_by (λ r. times_at times_of makers r.segment) records)) ∥₁

-- the records of the tiles below k
pub record HasTilesBelow (g : Tiling) (segments : List Seg) (k : ℕ) (list : List Record) : Type 0 where
  pub same : (r : Record) → Contains list r ↔ (IsRecord segments r × ((j : ℕ) × (j < k) × Owns g j r.pixel))

-- the records of the tiles below k whose pixels are no ends of their segments
pub record HasInnerBelow (g : Tiling) (segments : List Seg) (k : ℕ) (list : List Record) : Type 0 where
  pub same : (r : Record) → Contains list r ↔ (IsInnerRecord segments r × ((j : ℕ) × (j < k) × Owns g j r.pixel))

-- the hot pixels of the tiles below k, each once, and the records of those that segments meet between their ends
pub record HasPartsBelow (g : Tiling) (segments : List Seg) (k : ℕ) (pixels : List Pt) (records : List Record) : Type 0 where
  pub once : AllPairs (λ p q. p ≢ q) pixels
  pub hot : (p : Pt) → Contains pixels p ↔ (IsHot segments p × ((j : ℕ) × (j < k) × Owns g j p))
  pub has : HasInnerBelow g segments k records
