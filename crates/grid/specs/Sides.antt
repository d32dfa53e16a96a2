-- The side of a tile where none is given (own).
use Rattle.std.specs.Prelude.{◌≡◌, ◌^◌, ℕ, ◌<◌, ◌≤◌, Option}
use Rattle.geom.specs.declared.rect.Rect.{Rect}
use Rattle.grid.specs.Tiles.{IsGridOf, IsSide, Tiling, most_tiles, tile_count}

-- this side gives more tiles over the box than there may be
abbrev pub IsTooFine : Option Rect → ℕ → Type 0
IsTooFine bounds side = (g : Tiling) × IsGridOf bounds side g × (most_tiles < tile_count g)

-- the least power of two, from 2^18 = 262,144 on, that isn't too fine over the box
pub record IsDefaultSide (bounds : Option Rect) (side : ℕ) : Type 0 where
  pub exponent : ℕ
  pub from : 18 ≤ exponent
  pub power : side ≡ 2 ^ exponent
  pub is_side : IsSide side
  pub few : ¬ IsTooFine bounds side
  pub least : (k : ℕ) → 18 ≤ k → k < exponent → IsTooFine bounds (2 ^ k)
