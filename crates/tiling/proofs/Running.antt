-- The greatest number so far.
use Rattle.std.proofs.Common.{◌≡◌, ℕ, zero, suc, ◌+◌, ◌<◌, ◌≤◌, List, [], ◌∷◌, ◌++◌, length, get_or, refl, ap, arith, ℤ, pos}
use Rattle.std.specs.Prelude.{◌≤ℤ◌, ◌<ℤ◌, int_le}
use Rattle.std.specs.Int.{int_max}
use Rattle.std.specs.List.{position_or_len}
use Rattle.std.proofs.lemmas.Int.{by_lt_z}
use Rattle.geom.proofs.Tests.{lt_yes, lt_no, le_yes, le_no}
use Rattle.geom.proofs.Numbers.{itself, le_le, max_left, max_right}
use Rattle.tiling.specs.Index.{AreAscending, greatest_of, running}

pub running-push : (m : ℤ) (xs : List ℤ) (x : ℤ) → running m (xs ++ x ∷ []) ≡ running m xs ++ int_max (greatest_of m xs) x ∷ []
running-push m [] x = refl
running-push m (y ∷ ys) x = ap (λ zs. int_max m y ∷ zs) (running-push (int_max m y) ys x)

pub greatest_of-push : (m : ℤ) (xs : List ℤ) (x : ℤ) → greatest_of m (xs ++ x ∷ []) ≡ int_max (greatest_of m xs) x
greatest_of-push m [] x = refl
greatest_of-push m (y ∷ ys) x = greatest_of-push (int_max m y) ys x

pub length-running : (m : ℤ) (xs : List ℤ) → length (running m xs) ≡ length xs
length-running m [] = refl
length-running m (x ∷ xs) = ap suc (length-running (int_max m x) xs)

max_below : (m x b : ℤ) → m <ℤ b → x <ℤ b → int_max m x <ℤ b
max_below m x b h k = by_lt_z x m (λ l. rw (lt_yes x m l) h) (λ l. rw (lt_no x m l) k)

max_reaches : (m x b : ℤ) → m <ℤ b → b ≤ℤ x → b ≤ℤ int_max m x
max_reaches m x b h k = le_le b x (int_max m x) k (max_right m x)

at_least : (m : ℤ) (xs : List ℤ) (k : ℕ) → k < length xs → m ≤ℤ get_or (running m xs) k (pos 0)
at_least m [] k h = absurd (omega arith)
at_least m (x ∷ xs) zero h = max_left m x
at_least m (x ∷ xs) (suc k) h = le_le m (int_max m x) _ (max_left m x) (at_least (int_max m x) xs k (omega arith))

ascends : (m : ℤ) (xs : List ℤ) (i j : ℕ) → i ≤ j → j < length xs → get_or (running m xs) i (pos 0) ≤ℤ get_or (running m xs) j (pos 0)
ascends m [] i j h l = absurd (omega arith)
ascends m (x ∷ xs) zero zero h l = itself (int_max m x)
ascends m (x ∷ xs) zero (suc j) h l = at_least (int_max m x) xs j (omega arith)
ascends m (x ∷ xs) (suc i) zero h l = absurd (omega arith)
ascends m (x ∷ xs) (suc i) (suc j) h l = ascends (int_max m x) xs i j (omega arith) (omega arith)

pub running_up : (m : ℤ) (xs : List ℤ) → AreAscending (running m xs)
running_up m xs = record { ascend = λ i j h l. ascends m xs i j h (omega (arith, length-running m xs)) }

-- no number up to a place is past the greatest there
pub running_covers : (m : ℤ) (xs : List ℤ) (k : ℕ) → k < length xs → get_or xs k (pos 0) ≤ℤ get_or (running m xs) k (pos 0)
running_covers m [] k h = absurd (omega arith)
running_covers m (x ∷ xs) zero h = max_right m x
running_covers m (x ∷ xs) (suc k) h = running_covers (int_max m x) xs k (omega arith)

reached_later : (b m : ℤ) (xs : List ℤ) → m <ℤ b → position_or_len (int_le b) (running m xs) ≡ position_or_len (int_le b) xs
reached_later b m [] h = refl
reached_later b m (x ∷ xs) h = by_lt_z x b
    (λ k. rw (le_no b x k, le_no b (int_max m x) (max_below m x b h k)) (ap (λ n. 1 + n) (reached_later b (int_max m x) xs (max_below m x b h k))))
    (λ k. rw (le_yes b x k, le_yes b (int_max m x) (max_reaches m x b h k)) refl)

reached_at_once : (b m : ℤ) (xs : List ℤ) → b ≤ℤ m → ((k : ℕ) → k < length xs → m ≤ℤ get_or xs k (pos 0)) → position_or_len (int_le b) (running m xs) ≡ position_or_len (int_le b) xs
reached_at_once b m [] h all = refl
reached_at_once b m (x ∷ xs) h all = rw (le_yes b x (le_le b m x h (all 0 (omega arith))), le_yes b (int_max m x) (le_le b m (int_max m x) h (max_left m x))) refl

-- the greatest so far first reaches b where a number first does
pub first_running : (b m : ℤ) (xs : List ℤ) → ((k : ℕ) → k < length xs → m ≤ℤ get_or xs k (pos 0)) → position_or_len (int_le b) (running m xs) ≡ position_or_len (int_le b) xs
first_running b m xs all = by_lt_z m b (λ h. reached_later b m xs h) (λ h. reached_at_once b m xs h all)
