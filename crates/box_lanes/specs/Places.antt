-- Places as the bits of a number.
use Rattle.std.specs.Prelude.{◌≡◌, ℕ}
use Rattle.std.specs.Int.{bit_at}

-- k is one of the places
pub record IsPlace (places k : ℕ) : Type 0 where
  pub bit : bit_at places k ≡ 1
