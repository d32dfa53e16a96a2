-- Features that agree above their lowest bits (own).
use Rattle.std.specs.Prelude.{◌≡◌, ◌+◌, ◌*◌, ◌/◌, ◌^◌, ℕ, List, All}

-- above the lowest `levels` bits all of them are p
abbrev pub InBlock : ℕ → ℕ → List ℕ → Type 0
InBlock levels p set = All (λ f. f / 2 ^ levels ≡ p) set

abbrev pub IsInBlock : ℕ → List ℕ → Type 0
IsInBlock levels set = (p : ℕ) × InBlock levels p set

-- both in one block
abbrev pub AreInBlock : ℕ → List ℕ → List ℕ → Type 0
AreInBlock levels s t = (p : ℕ) × InBlock levels p s × InBlock levels p t

-- the two halves of a block of `levels` bits: below and above the highest of these
pub record Splits (levels : ℕ) (low high : List ℕ) : Type 0 where
  pub level : ℕ
  pub levels_is : levels ≡ level + 1
  pub prefix : ℕ
  pub low_in : InBlock level (2 * prefix) low
  pub high_in : InBlock level (2 * prefix + 1) high
