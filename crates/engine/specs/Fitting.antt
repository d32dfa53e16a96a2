-- The side of a tile where none is given for two layers (own).
use Rattle.std.specs.Prelude.{◌≡◌, ◌^◌, ◌<◌, ◌≤◌, ℕ, List}
use Rattle.grid.specs.Tiles.{IsSide, Tiling, most_tiles, tile_count}
use Rattle.wkt.specs.LayerText.{Ring}
use Rattle.wkt.specs.Refusals.{IsAcceptedWithin}
use Rattle.geom.specs.declared.point.Pt.{Pt}
use Rattle.columns.specs.declared.layout.Columns.{Columns}
use Rattle.layers.specs.ColumnsRefusals.{AreBothAccepted, rings_of}
use Rattle.layers.specs.FeatureLayers.{IsGridOverLayers, StandWithin}
use Rattle.layers.specs.Grids.{IsGridOver, IsGridOverRings}
use Rattle.layers.specs.Refusals.{greatest_text}

-- the layers are accepted, and this side gives more tiles over them than there may be
pub record IsTooFineOver (a b : List ℕ) (side : ℕ) : Type 0 where
  pub rings_a : List Ring
  pub rings_b : List Ring
  pub accepted_a : IsAcceptedWithin greatest_text a rings_a
  pub accepted_b : IsAcceptedWithin greatest_text b rings_b
  pub grid : Tiling
  pub is_grid : IsGridOver rings_a rings_b side grid
  pub many : most_tiles < tile_count grid

-- the least power of two, from 2^18 = 262,144 on, that isn't too fine
pub record IsFittingSide (a b : List ℕ) (side : ℕ) : Type 0 where
  pub exponent : ℕ
  pub from : 18 ≤ exponent
  pub power : side ≡ 2 ^ exponent
  pub is_side : IsSide side
  pub few : ¬ IsTooFineOver a b side
  pub least : (k : ℕ) → 18 ≤ k → k < exponent → IsTooFineOver a b (2 ^ k)

-- the layers are accepted, and this side gives more tiles over them than there may be
pub record AreTooFineOver (texts : List (List ℕ)) (side : ℕ) : Type 0 where
  pub layers : List (List (List (List Pt)))
  pub stand : StandWithin greatest_text texts layers
  pub grid : Tiling
  pub is_grid : IsGridOverLayers layers side grid
  pub many : most_tiles < tile_count grid

-- of the same powers of two the least one that isn't too fine for these layers
pub record IsFittingSideOver (texts : List (List ℕ)) (side : ℕ) : Type 0 where
  pub exponent : ℕ
  pub from : 18 ≤ exponent
  pub power : side ≡ 2 ^ exponent
  pub is_side : IsSide side
  pub few : ¬ AreTooFineOver texts side
  pub least : (k : ℕ) → 18 ≤ k → k < exponent → AreTooFineOver texts (2 ^ k)

-- both layers are accepted, and this side gives more tiles over them than there may be
pub record AreTooFineColumns (a b : Columns) (side : ℕ) : Type 0 where
  pub accepted : AreBothAccepted a b
  pub grid : Tiling
  pub is_grid : IsGridOverRings (rings_of a) (rings_of b) side grid
  pub many : most_tiles < tile_count grid

-- of the same powers of two the least one that isn't too fine for these columns
pub record IsFittingSideOfColumns (a b : Columns) (side : ℕ) : Type 0 where
  pub exponent : ℕ
  pub from : 18 ≤ exponent
  pub power : side ≡ 2 ^ exponent
  pub is_side : IsSide side
  pub few : ¬ AreTooFineColumns a b side
  pub least : (k : ℕ) → 18 ≤ k → k < exponent → AreTooFineColumns a b (2 ^ k)
