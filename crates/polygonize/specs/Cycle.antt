-- Cycles of a map on the numbers below a bound, given as a list.
use Rattle.std.specs.Prelude.{◌≡◌, ◌==◌, ◌⊎◌, ℕ, zero, suc, ◌<◌, ◌≤◌, Bool, true, false, not, List, [], ◌∷◌, length, map, slice_index, slice_index_or, slice_range, All, AllPairs, flat_map, IsPermutation}
use Rattle.geom.specs.Rings.{around}
use Rattle.hands.specs.declared.part.Part.{Part}

abbrev pub IsOneToOne : List ℕ → Type 0
IsOneToOne next = (i j : ℕ) → i < length next → j < length next → slice_index next i ≡ slice_index next j → i ≡ j

abbrev pub IsSeen : List Bool → ℕ → Type 0
IsSeen seen i = slice_index_or seen i false ≡ true

abbrev pub IsUnseen : List Bool → ℕ → Type 0
IsUnseen seen i = slice_index_or seen i false ≡ false

-- seen is what has a number other than the one for none
abbrev pub seen_of : ℕ → List ℕ → List Bool
seen_of none cycle_at = map (λ r. not (r == none)) cycle_at

-- i is seen and j comes after it
pub record ComesAfterSeen (next : List ℕ) (seen : List Bool) (j : ℕ) : Type 0 where
  pub i : ℕ
  pub inside : i < length next
  pub seen_i : IsSeen seen i
  pub then : slice_index next i ≡ j

-- what is seen comes after something seen
abbrev pub IsClosed : List ℕ → List Bool → Type 0
IsClosed next seen = (j : ℕ) → IsSeen seen j → ComesAfterSeen next seen j

abbrev pub pair : ℕ → ℕ → ℕ × ℕ
pair i j = (i, j)

abbrev pub Leads : List ℕ → ℕ × ℕ → Type 0
Leads next p = slice_index next p.0 ≡ p.1

-- each number is below the length and leads to its neighbour, the last to the first
pub record IsCycle (next : List ℕ) (cycle : List ℕ) : Type 0 where
  pub inside : All (λ i. i < length next) cycle
  pub leads : All (Leads next) (around pair cycle)

abbrev pub Member : List ℕ → ℕ → Type 0
Member [] i = ⊥
Member (j ∷ js) i = (j ≡ i) ⊎ Member js i

abbrev pub NoTwice : List ℕ → Type 0
NoTwice [] = Unit {0}
NoTwice (j ∷ js) = ¬ (Member js j) × NoTwice js

pub record Walked (next : List ℕ) (old new : List Bool) (start : ℕ) (cycle : List ℕ) : Type 0 where
  pub is_cycle : IsCycle next cycle
  pub rest : List ℕ
  pub begins : cycle ≡ start ∷ rest
  pub no_twice : NoTwice cycle
  pub fresh : (i : ℕ) → Member cycle i → IsUnseen old i
  pub marks : (i : ℕ) → IsSeen new i → IsSeen old i ⊎ Member cycle i
  pub keeps : (i : ℕ) → IsSeen old i → IsSeen new i
  pub marked : (i : ℕ) → Member cycle i → IsSeen new i
  pub closed : IsClosed next new

-- the part is one of the list
abbrev pub IsPartOf : List ℕ → Part → Type 0
IsPartOf numbers part = (part.from ≤ part.past) × (part.past ≤ length numbers)

-- the lists that stand in these parts of a list
abbrev pub lists_in : List ℕ → List Part → List (List ℕ)
lists_in numbers parts = map (λ part. slice_range numbers part.from part.past) parts

-- begun at its least number
abbrev pub IsLeastFirst : List ℕ → Type 0
IsLeastFirst [] = ⊥
IsLeastFirst (i ∷ is) = All (λ j. i ≤ j) is

-- the first numbers ascend
abbrev pub Begins : List ℕ → List ℕ → Type 0
Begins [] js = ⊥
Begins (i ∷ is) [] = ⊥
Begins (i ∷ is) (j ∷ js) = i < j

abbrev pub members : List (List ℕ) → List ℕ
members = flat_map (λ cycle. cycle)

abbrev pub below : ℕ → List ℕ
below zero = []
below (suc n) = n ∷ below n

-- the cycles have each number below the length once
pub record AreCycles (next : List ℕ) (cycles : List (List ℕ)) : Type 0 where
  pub are_cycles : All (IsCycle next) cycles
  pub together : IsPermutation (below (length next)) (members cycles)
  pub no_twice : All NoTwice cycles
  pub least_first : All IsLeastFirst cycles
  pub ascending : AllPairs Begins cycles
