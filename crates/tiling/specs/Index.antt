-- Boxes with their numbers, in the order of their left sides (own).
use Rattle.std.specs.Prelude.{◌≡◌, ◌↔◌, ◌⊎◌, ◌^◌, ◌<◌, ◌≤◌, ◌≤ℤ◌, ◌<ℤ◌, ℕ, ℤ, pos, negsuc, List, [], ◌∷◌, AllPairs, Contains, Some, slice_get, count_by, get_or, int_le, length, map}
use Rattle.std.specs.Int.{int_max}
use Rattle.std.specs.List.{enumerate_from, position_or_len}
use Rattle.std.specs.List.Sorted.{IsPermutation}
use Rattle.geom.specs.declared.rect.Rect.{Rect}

-- a box with its number
abbrev pub Item : Type 0
Item = ℕ × Rect

-- a is before b: by left side, then by number
abbrev pub IsLeftBefore : Item → Item → Type 0
IsLeftBefore a b = (a.1.lo.x <ℤ b.1.lo.x) ⊎ ((a.1.lo.x ≡ b.1.lo.x) × (a.0 ≤ b.0))

-- items are the boxes with their numbers, in order
pub record AreIndexed (boxes : List Rect) (items : List Item) : Type 0 where
  pub all : IsPermutation (enumerate_from 0 boxes) items
  pub ordered : AllPairs IsLeftBefore items

-- the first place at which a right side reaches low, or the number of items
abbrev pub first_reaching : ℤ → List Item → ℕ
first_reaching low items = position_or_len (λ i. int_le low i.1.hi.x) items

-- how many left sides are not past high
abbrev pub count_begun : ℤ → List Item → ℕ
count_begun high items = count_by (λ i. int_le i.1.lo.x high) items

-- found are the numbers, ascending, of the boxes that have an x from low to high
pub record AreReaching (boxes : List Rect) (low high : ℤ) (found : List ℕ) : Type 0 where
  pub ascending : AllPairs (λ i j. i < j) found
  pub exact : (number : ℕ) → Contains found number ↔ ((b : Rect) × (slice_get boxes number ≡ Some b) × (b.lo.x ≤ℤ high) × (low ≤ℤ b.hi.x))

-- ---- what the code keeps
abbrev pub lefts_of : List Rect → List ℤ
lefts_of boxes = map (λ r. r.lo.x) boxes

abbrev pub rights_of : List Rect → List ℤ
rights_of boxes = map (λ r. r.hi.x) boxes

-- the greatest number up to each place, and m
abbrev pub running : ℤ → List ℤ → List ℤ
running m [] = []
running m (x ∷ xs) = int_max m x ∷ running (int_max m x) xs

abbrev pub greatest_of : ℤ → List ℤ → ℤ
greatest_of m [] = m
greatest_of m (x ∷ xs) = greatest_of (int_max m x) xs

-- the least 32-bit number
abbrev pub least : ℤ
least = negsuc 2147483647

-- each number is at most each later one
pub record AreAscending (xs : List ℤ) : Type 0 where
  pub ascend : (i j : ℕ) → i ≤ j → j < length xs → get_or xs i (pos 0) ≤ℤ get_or xs j (pos 0)

pub record IsKept (numbers : List ℕ) (sorted : List Rect) (greatest : List ℤ) : Type 0 where
  pub numbers_len : length numbers ≡ length sorted
  pub few : length sorted < 2 ^ 32
  pub lefts_up : AreAscending (lefts_of sorted)
  pub greatest_are : greatest ≡ running least (rights_of sorted)
