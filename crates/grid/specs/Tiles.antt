-- Tiles (own): the columns and rows of a grid, the points that a tile owns, and the refusals.
use Rattle.std.specs.Prelude.{◌≡◌, ◌^◌, ℕ, ℤ, pos, ◌+◌, ◌-◌, ◌*◌, ◌%◌, ◌<◌, ◌≤◌, ◌+ℤ◌, ◌-ℤ◌, List, Contains, Option, Some, None}
use Rattle.std.specs.Int.{int_div_euclid}
use Rattle.geom.specs.Limit.{AreInLimit, IsWithin}
use Rattle.geom.specs.declared.fault.Fault.{Fault}
use Rattle.geom.specs.declared.fault.Fault.TheVariants.{LayerLong, Syntax, NumberRange, RingShort, RingOpen, TooManySegments, BadTile, BadWorkers, TooManyTiles, NotNoded, Memory, Write}
use Rattle.geom.specs.declared.point.Pt.{Pt}
use Rattle.geom.specs.declared.rect.Rect.{Rect}
use Rattle.geom.specs.declared.segment.Seg.{Seg}
use Rattle.geom.specs.Box.{IsInBox}
use Rattle.grid.specs.declared.grid.TheConstants.{GREATEST_SIDE, LEAST_SIDE, MOST_CELLS, MOST_TILES}

-- a grid: its least corner, the side of its tiles, and how many columns and rows it has
pub record Tiling : Type 0 where
  pub left : ℤ
  pub bottom : ℤ
  pub side : ℕ
  pub columns : ℕ
  pub rows : ℕ

-- the floor of (x - low) / side: the column, or row, of a coordinate
abbrev pub steps : ℤ → ℕ → ℤ → ℤ
steps low side x = int_div_euclid (x -ℤ low) (pos side)

-- tile k has the column and the row of p, and these are a column and a row of the grid
pub record Owns (g : Tiling) (k : ℕ) (p : Pt) : Type 0 where
  pub column : ℕ
  pub row : ℕ
  pub column_is : steps g.left g.side p.x ≡ pos column
  pub row_is : steps g.bottom g.side p.y ≡ pos row
  pub in_columns : column < g.columns
  pub in_rows : row < g.rows
  pub number_is : k ≡ row * g.columns + column

-- p has this column and this row, and these are a column and a row of the grid
pub record IsPlaced (g : Tiling) (p : Pt) (place : ℕ × ℕ) : Type 0 where
  pub column_is : steps g.left g.side p.x ≡ pos place.0
  pub row_is : steps g.bottom g.side p.y ≡ pos place.1
  pub in_columns : place.0 < g.columns
  pub in_rows : place.1 < g.rows

-- some tile owns p
abbrev pub HasTile : Tiling → Pt → Type 0
HasTile g p = (k : ℕ) × Owns g k p

-- the least and the greatest x that tile k owns
abbrev pub tile_left : Tiling → ℕ → ℤ
tile_left g k = g.left +ℤ pos (k % g.columns * g.side)

abbrev pub tile_right : Tiling → ℕ → ℤ
tile_right g k = g.left +ℤ pos (k % g.columns * g.side + g.side - 1)

abbrev pub tile_count : Tiling → ℕ
tile_count g = g.rows * g.columns

abbrev pub IsSide : ℕ → Type 0
IsSide side = (LEAST_SIDE ≤ side) × (side ≤ GREATEST_SIDE)

abbrev pub most_tiles : ℕ
most_tiles = MOST_TILES

abbrev pub most_cells : ℕ
most_cells = MOST_CELLS

-- the grid of this side that reaches from the least to the greatest corner of the box, or one without tiles
pub record IsOver (r : Rect) (side : ℕ) (g : Tiling) : Type 0 where
  pub left_is : g.left ≡ r.lo.x
  pub bottom_is : g.bottom ≡ r.lo.y
  pub side_is : g.side ≡ side
  pub columns_are : pos g.columns ≡ steps r.lo.x side r.hi.x +ℤ pos 1
  pub rows_are : pos g.rows ≡ steps r.lo.y side r.hi.y +ℤ pos 1

abbrev pub IsGridOf : Option Rect → ℕ → Tiling → Type 0
IsGridOf None side g = (g.side ≡ side) × (g.columns ≡ 0) × (g.rows ≡ 0)
IsGridOf (Some r) side g = IsOver r side g

-- a side outside its limits is refused, and then a grid with too many tiles, by their number
abbrev pub IsRefusal : Option Rect → ℕ → Fault → Type 0
IsRefusal bounds side BadTile = ¬ (IsSide side)
IsRefusal bounds side (TooManyTiles count) = IsSide side × ((g : Tiling) × IsGridOf bounds side g × (count ≡ tile_count g) × (most_tiles < count))
IsRefusal bounds side LayerLong = ⊥
IsRefusal bounds side (Syntax offset) = ⊥
IsRefusal bounds side (NumberRange offset) = ⊥
IsRefusal bounds side (RingShort offset) = ⊥
IsRefusal bounds side (RingOpen offset) = ⊥
IsRefusal bounds side (TooManySegments count) = ⊥
IsRefusal bounds side BadWorkers = ⊥
IsRefusal bounds side (NotNoded e f) = ⊥
IsRefusal bounds side Memory = ⊥
IsRefusal bounds side Write = ⊥

-- the corners of the box are in the coordinate limit
abbrev pub AreBounds : Option Rect → Type 0
AreBounds None = Unit {0}
AreBounds (Some r) = AreInLimit r.lo r.hi

-- every point of the box has a tile
abbrev pub CoversBounds : Option Rect → Tiling → Type 0
CoversBounds None g = Unit {0}
CoversBounds (Some r) g = (p : Pt) → IsInBox r.lo r.hi p → HasTile g p

-- the bounds hold the ends of all segments; without bounds there are none
abbrev pub BoundsHold : Option Rect → List Seg → Type 0
BoundsHold None segments = (s : Seg) → ¬ (Contains segments s)
BoundsHold (Some r) segments = (s : Seg) → Contains segments s → IsInBox r.lo r.hi s.a × IsInBox r.lo r.hi s.b

-- what the code keeps of a grid: room for its coordinates in 32 bits
pub record HasRoom (g : Tiling) : Type 0 where
  pub left_near : IsWithin (2 ^ 28) g.left
  pub bottom_near : IsWithin (2 ^ 28) g.bottom
  pub some_side : 0 < g.side
  pub side_small : g.side ≤ 2 ^ 30
  pub few : tile_count g ≤ most_cells
  pub across : g.columns * g.side ≤ 2 ^ 29 + 2 ^ 26
  pub up : g.rows * g.side ≤ 2 ^ 29 + 2 ^ 26
