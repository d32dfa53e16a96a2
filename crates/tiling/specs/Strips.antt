-- Vertical strips, and which boxes meet a strip (own).
use Rattle.std.specs.Prelude.{◌≡◌, ◌↔◌, ◌<◌, ◌+◌, ◌^◌, ◌≤ℤ◌, ℕ, ℤ, pos, List, AllPairs, Contains, Some, nat_abs, slice_get}
use Rattle.geom.specs.Limit.{IsWithin}
use Rattle.geom.specs.declared.rect.Rect.{Rect}
use Rattle.grid.specs.Tiles.{steps}
use Rattle.tiling.specs.Index.{Item}

-- strips of one width from low on, as many as reach high, and boxes with their numbers in the order of their left sides
pub record Striped : Type 0 where
  pub low : ℤ
  pub high : ℤ
  pub width : ℕ
  pub items : List Item

-- x lies in a strip: its number is the floor of (x - low) / width
abbrev pub IsInStrip : Striped → ℕ → ℤ → Type 0
IsInStrip s strip x = steps s.low s.width x ≡ pos strip

-- the floor of (high - low) / width, and one more
abbrev pub strip_count : Striped → ℕ
strip_count s = nat_abs (steps s.low s.width s.high) + 1

-- there is a box of this number, and it has a whole x in the strip
abbrev pub MeetsStrip : Striped → ℕ → List Rect → ℕ → Type 0
MeetsStrip s strip boxes number = (b : Rect) × (slice_get boxes number ≡ Some b) × ((x : ℤ) × (b.lo.x ≤ℤ x) × (x ≤ℤ b.hi.x) × IsInStrip s strip x)

-- found are the numbers, ascending, of the boxes that have a whole x in the strip
pub record IsFill (s : Striped) (strip : ℕ) (boxes : List Rect) (found : List ℕ) : Type 0 where
  pub ascending : AllPairs (λ i j. i < j) found
  pub exact : (number : ℕ) → Contains found number ↔ MeetsStrip s strip boxes number

-- what the code keeps of strips
pub record HasStripRoom (low high : ℤ) (width : ℕ) : Type 0 where
  pub order : low ≤ℤ high
  pub low_near : IsWithin (2 ^ 28) low
  pub high_near : IsWithin (2 ^ 28) high
  pub some : 0 < width
