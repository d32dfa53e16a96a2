-- Sets of features by numbers (own): each number is of one set, and each set has one number.
use Rattle.std.specs.Prelude.{◌≡◌, ◌⊎◌, ◌<◌, ◌≤◌, ◌-◌, ◌==◌, ℕ, if◌then◌else◌, nat_lt, List, [], ◌∷◌, All, AllPairs, length, slice_index_or}
use Rattle.cover_law.specs.Rows.{beyond}

-- The set of a number. Those of two features and more are listed, and a number below 2^31 is a place among them; any other number is that of a
-- feature alone, less 2^31, but for the greatest of 32 bits, which is that of the empty set.
abbrev pub set_of : List (List ℕ) → ℕ → List ℕ
set_of sets n = if nat_lt n 2147483648 then slice_index_or sets n [] else (if n == 4294967295 then [] else (n - 2147483648) ∷ [])

-- n is the number of a set
abbrev pub IsNumber : List (List ℕ) → ℕ → Type 0
IsNumber sets n = ((n < 2147483648) × (n < length sets)) ⊎ ((2147483648 ≤ n) × (n ≤ 4294967295))

-- sets are ascending lists of features, and equal sets have equal numbers
pub record AreSets (sets : List (List ℕ)) : Type 0 where
  pub ascending : (n : ℕ) → IsNumber sets n → AllPairs (λ f g. f < g) (set_of sets n)
  pub below : (n : ℕ) → IsNumber sets n → All (λ f. f < 2147483647) (set_of sets n)
  pub apart : (m n : ℕ) → IsNumber sets m → IsNumber sets n → set_of sets m ≡ set_of sets n → m ≡ n

-- numbers keep their sets
abbrev pub Keeps : List (List ℕ) → List (List ℕ) → Type 0
Keeps old new = (n : ℕ) → IsNumber old n → IsNumber new n × (set_of new n ≡ set_of old n)

-- n is the number of this set
abbrev pub IsListed : List (List ℕ) → List ℕ → ℕ → Type 0
IsListed sets set n = IsNumber sets n × (set_of sets n ≡ set)

-- n is the number of what lies beyond an edge that is the border of the features `delta`, from where the set is that of m
abbrev pub IsBeyond : List (List ℕ) → ℕ → List ℕ → List (List ℕ) → ℕ → Type 0
IsBeyond old m delta new n = IsNumber new n × ((count : ℕ) → All (λ f. f < count) (set_of old m) → All (λ f. f < count) delta → set_of new n ≡ beyond count (set_of old m) delta)
