-- Bins: which boxes meet a tile (own).
use Rattle.std.specs.Prelude.{◌≡◌, ◌↔◌, ◌+◌, ◌-◌, ◌*◌, ◌/◌, ◌%◌, ◌<◌, ◌≤◌, ◌++◌, ◌∷◌, [], ℕ, List, AllPairs, Contains, Some, get_or, length, map, slice_get}
use Rattle.std.specs.declared.vec.Vec.{Vec}
use Rattle.geom.specs.Box.{IsInBox}
use Rattle.geom.specs.declared.point.Pt.{Pt}
use Rattle.geom.specs.declared.rect.Rect.{Rect}
use Rattle.grid.specs.Tiles.{Owns, Tiling, tile_count}

-- there is a box of this number, and it has a point that the tile owns
abbrev pub MeetsTile : Tiling → ℕ → List Rect → ℕ → Type 0
MeetsTile g k boxes number = (b : Rect) × (slice_get boxes number ≡ Some b) × ((p : Pt) × IsInBox b.lo b.hi p × Owns g k p)

-- the box has a point that tile k owns
abbrev pub HasPointOf : Tiling → ℕ → Rect → Type 0
HasPointOf g k b = (p : Pt) × IsInBox b.lo b.hi p × Owns g k p

-- the bin of tile k: the numbers, ascending, of the boxes that share a point with its rectangle, whose points are those that it owns
pub record IsBin (g : Tiling) (k : ℕ) (boxes : List Rect) (bin : List ℕ) : Type 0 where
  pub ascending : AllPairs (λ i j. i < j) bin
  pub exact : (number : ℕ) → Contains bin number ↔ MeetsTile g k boxes number

-- the bins of all tiles of a grid, and of how many boxes they are
pub record TileBins : Type 0 where
  pub grid : Tiling
  pub count : ℕ
  pub bins : List (List ℕ)

-- these are the bins of these boxes, tile by tile
pub record AreBins (boxes : List Rect) (kept : TileBins) : Type 0 where
  pub count_is : kept.count ≡ length boxes
  pub each : (k : ℕ) → k < tile_count kept.grid → IsBin kept.grid k boxes (get_or kept.bins k [])

-- the bins of the tiles in the rows of a grid from one to below another, and of how many boxes they are
pub record TileRows : Type 0 where
  pub grid : Tiling
  pub from : ℕ
  pub past : ℕ
  pub count : ℕ
  pub bins : List (List ℕ)

-- these are the bins of these boxes, tile by tile
pub record AreRowBins (boxes : List Rect) (kept : TileRows) : Type 0 where
  pub count_is : kept.count ≡ length boxes
  pub each : (k : ℕ) → k < (kept.past - kept.from) * kept.grid.columns → IsBin kept.grid (kept.from * kept.grid.columns + k) boxes (get_or kept.bins k [])

-- ---- what the code gives to tiles
abbrev pub lists_of : {A : Type 0} → List (Vec ℕ A) → List (List ℕ)
lists_of bins = map (λ v. v.items) bins

-- tile k lies in the columns from the first to the last, and in the rows from the first to below the one past the last
pub record IsAmong (width : ℕ) (columns rows : ℕ × ℕ) (k : ℕ) : Type 0 where
  pub left : columns.0 ≤ k % width
  pub right : k % width ≤ columns.1
  pub bottom : rows.0 ≤ k / width
  pub top : k / width < rows.1

-- the lists of those tiles have a number more at their end, and the others are as they were
pub record AreGiven (those : ℕ → Type 0) (number : ℕ) (old new : List (List ℕ)) : Type 0 where
  pub same : length new ≡ length old
  pub given : (k : ℕ) → k < length old → those k → get_or new k [] ≡ get_or old k [] ++ number ∷ []
  pub kept : (k : ℕ) → k < length old → ¬ (those k) → get_or new k [] ≡ get_or old k []
