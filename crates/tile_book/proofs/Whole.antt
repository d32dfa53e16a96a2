-- What a whole pass counts.
use Rattle.std.proofs.Common.{◌≡◌, ℕ, zero, suc, ◌+◌, ◌<◌, ◌≤◌, false, List, [], ◌∷◌, ◌++◌, Option, Some, None, length, length-append, sum, flat_map, refl, sym, ap, ◌∙◌, arith, true≢false}
use Rattle.std.proofs.lemmas.Bool.Decides.{nat_tests}
use Rattle.std.proofs.lemmas.Grind.{flat_map-append}
use Rattle.std.proofs.lemmas.List.Sums.{sum_by_push}
use Rattle.std.specs.Prelude.{IfNone}
use Rattle.std.specs.Option.{is_some}
use Rattle.tile_book.specs.Counts.{is_it, times, once_below, HoldsEachOnce}
use Rattle.tile_book.specs.Growth.{one_if_fault}
use Rattle.tile_book.proofs.Totals.{it_is, once_some}

-- how often a list has the numbers below n
abbrev times_below : ℕ → List ℕ → ℕ
times_below zero xs = 0
times_below (suc n) xs = times_below n xs + times n xs

none_below : (n : ℕ) → times_below n [] ≡ 0
none_below zero = refl
none_below (suc n) = omega (arith, none_below n)

step_up : (x n : ℕ) → once_below x n + is_it n x ≡ once_below x (n + 1)
step_up x n = grind (arith, nat_tests)

one_more : (n x : ℕ) (xs : List ℕ) → times_below n (x ∷ xs) ≡ once_below x n + times_below n xs
one_more zero x xs = grind (arith, nat_tests)
one_more (suc n) x xs =
    let same : n + 1 ≡ suc n = omega arith in
    omega (arith, one_more n x xs, step_up x n, ap (once_below x) same)

is_below : (x n : ℕ) → x < n → once_below x n ≡ 1
is_below x n lt = grind (arith, nat_tests)

-- of a list of numbers below n
has_all : (n : ℕ) (xs : List ℕ) → ((x : ℕ) → 0 < times x xs → x < n) → times_below n xs ≡ length xs
has_all n [] low = none_below n
has_all n (x ∷ xs) low =
    omega (arith, one_more n x xs, is_below x n (low x (omega (arith, it_is x))), has_all n xs (λ y some. low y (omega arith)))

each_once_below : (n : ℕ) (xs : List ℕ) → HoldsEachOnce n xs → (m : ℕ) → m ≤ n → times_below m xs ≡ m
each_once_below n xs each zero le = refl
each_once_below n xs each (suc m) le = omega (arith, each_once_below n xs each m (omega arith), each m, is_below m n (omega arith))

-- a list that holds each number below n once has n numbers
pub each_once_length : (n : ℕ) (xs : List ℕ) → HoldsEachOnce n xs → length xs ≡ n
each_once_length n xs each =
    sym (has_all n xs (λ x some. once_some x n (omega (arith, each x)))) ∙ each_once_below n xs each n (omega arith)

pub flat_push : {X A : Type 0} (f : X → List A) (xs : List X) (x : X) → length (flat_map f (xs ++ x ∷ [])) ≡ length (flat_map f xs) + length (f x)
flat_push f xs x = ap length (flat_map-append f xs (x ∷ [])) ∙ omega (arith, length-append (flat_map f xs) (flat_map f (x ∷ [])), length-append (f x) [])

pub sum_push : (xs : List ℕ) (x : ℕ) → sum (xs ++ x ∷ []) ≡ sum xs + x
sum_push xs x = sum_by_push (λ y. y) xs x

pub no_fault : {A : Type 0} (o : Option A) (P : Type 0) → false ≡ is_some o → IfNone o P → P × (one_if_fault o ≡ 0)
no_fault None P e p = (p, refl)
no_fault (Some a) P e p = absurd (true≢false (sym e))
