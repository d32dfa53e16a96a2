-- Bins that are found in an index (own).
use Rattle.std.specs.Prelude.{List}
use Rattle.grid.specs.Tiles.{Tiling}
use Rattle.tiling.specs.Index.{Item}

-- boxes over a grid, with their numbers in the order of their left sides
pub record Binned : Type 0 where
  pub grid : Tiling
  pub items : List Item
