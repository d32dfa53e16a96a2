-- The boxes of layers, and the grid over them (own).
use Rattle.std.specs.Prelude.{◌≡◌, ◌++◌, ◌≤◌, ◌<◌, ℕ, List, [], Option, MatchOption, length}
use Rattle.geom.specs.Bounds.{IsBox}
use Rattle.geom.specs.Segments.{layer_steps}
use Rattle.geom.specs.declared.point.Pt.{Pt}
use Rattle.geom.specs.declared.rect.Rect.{Rect}
use Rattle.geom.specs.declared.fault.Fault.{Fault}
use Rattle.geom.specs.declared.fault.Fault.TheVariants.{TooManyTiles}
use Rattle.geom.specs.declared.fault.Part.{Part}
use Rattle.geom.specs.declared.fault.Part.TheVariants.{Run}
use Rattle.grid.specs.Tiles.{IsGridOf, Tiling, most_tiles, tile_count}
use Rattle.wkt.specs.LayerText.{Ring}
use Rattle.wkt.specs.Refusals.{plain}

-- the box of these steps, or none where there are none
abbrev pub AreBoundsOf : List (Pt × Pt) → Option Rect → Type 0
AreBoundsOf steps bounds = MatchOption bounds (steps ≡ []) (IsBox steps)

-- the bounds of the steps of two layers, of which each has its own
abbrev pub AreJointBounds : Option Rect → Option Rect → Option Rect → Type 0
AreJointBounds a b both = (steps_a steps_b : List (Pt × Pt)) → AreBoundsOf steps_a a → AreBoundsOf steps_b b → AreBoundsOf (steps_a ++ steps_b) both

-- the grid of this side over two layers with these bounds
pub record IsJointGrid (a b : Option Rect) (side : ℕ) (g : Tiling) : Type 0 where
  pub bounds : Option Rect
  pub joint : AreJointBounds a b bounds
  pub is_grid : IsGridOf bounds side g

-- it has few tiles
pub record IsUsableGrid (a b : Option Rect) (side : ℕ) (g : Tiling) : Type 0 where
  pub over : IsJointGrid a b side g
  pub few : tile_count g ≤ most_tiles

-- it is refused for the number of its tiles
pub record IsTooFine (a b : Option Rect) (side : ℕ) (part : Part) (fault : Fault) : Type 0 where
  pub grid : Tiling
  pub over : IsJointGrid a b side grid
  pub many : most_tiles < tile_count grid
  pub part_is : part ≡ Run
  pub fault_is : fault ≡ TooManyTiles (tile_count grid)

-- the grid of this side over the segments of the layers with these rings as they are written
pub record IsGridOver (rings_a rings_b : List Ring) (side : ℕ) (g : Tiling) : Type 0 where
  pub bounds : Option Rect
  pub are_bounds : AreBoundsOf (layer_steps (plain rings_a) ++ layer_steps (plain rings_b)) bounds
  pub is_grid : IsGridOf bounds side g

-- the number of segments of a layer with these rings, whose first points are not repeated
abbrev pub steps_count : List (List Pt) → ℕ
steps_count rings = length (layer_steps rings)

-- the grid of this side over the segments of the layers with such rings
pub record IsGridOverRings (rings_a rings_b : List (List Pt)) (side : ℕ) (g : Tiling) : Type 0 where
  pub bounds : Option Rect
  pub are_bounds : AreBoundsOf (layer_steps rings_a ++ layer_steps rings_b) bounds
  pub is_grid : IsGridOf bounds side g
