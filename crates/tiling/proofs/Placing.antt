-- First places and counts, from what is known of each place.
use Rattle.std.proofs.Common.{◌≡◌, ℕ, zero, suc, ◌+◌, ◌<◌, ◌≤◌, Bool, true, false, cond, not, List, [], ◌∷◌, length, get_or, map, refl, sym, ap, ◌∙◌, arith, ℤ, pos}
use Rattle.std.specs.List.{count_by, position_or_len}
use Rattle.std.proofs.lemmas.List.Sums.{sum_by-cons}

pub position_is : (p : ℤ → Bool) (xs : List ℤ) (n : ℕ) → n ≤ length xs → ((k : ℕ) → k < n → p (get_or xs k (pos 0)) ≡ false) → ((k : ℕ) → n ≤ k → k < length xs → p (get_or xs k (pos 0)) ≡ true) → n ≡ position_or_len p xs
position_is p [] n h before after = omega arith
position_is p (x ∷ xs) zero h before after = rw (after 0 (omega arith) (omega arith)) refl
position_is p (x ∷ xs) (suc n) h before after =
    rw (before 0 (omega arith)) (ap suc (position_is p xs n (omega arith) (λ k l. before (suc k) (omega arith)) (λ k l m. after (suc k) (omega arith) (omega arith))) ∙ one_more (position_or_len p xs))
  where
    one_more : (n : ℕ) → suc n ≡ 1 + n
    one_more n = omega arith

pub position-map : {X : Type 0} (p : ℤ → Bool) (f : X → ℤ) (xs : List X) → position_or_len p (map f xs) ≡ position_or_len (λ x. p (f x)) xs
position-map p f [] = refl
position-map p f (x ∷ xs) = ap (λ n. cond (not (p (f x))) (1 + n) 0) (position-map p f xs)

pub count_is : (p : ℤ → Bool) (xs : List ℤ) (n : ℕ) → n ≤ length xs → ((k : ℕ) → k < n → k < length xs → p (get_or xs k (pos 0)) ≡ true) → ((k : ℕ) → n ≤ k → k < length xs → p (get_or xs k (pos 0)) ≡ false) → n ≡ count_by p xs
count_is p [] n h before after = omega arith
count_is p (x ∷ xs) zero h before after =
    let rest = count_is p xs 0 (omega arith) (λ k l m. absurd (omega arith)) (λ k l m. after (suc k) (omega arith) (omega arith)) in
    sym (sum_by-cons (λ x. cond (p x) 1 0) x xs ∙ rw (after 0 (omega arith) (omega arith)) (none (count_by p xs) (sym rest)))
  where
    none : (n : ℕ) → n ≡ 0 → 0 + n ≡ 0
    none n e = omega arith
count_is p (x ∷ xs) (suc n) h before after =
    let rest = count_is p xs n (omega arith) (λ k l m. before (suc k) (omega arith) (omega arith)) (λ k l m. after (suc k) (omega arith) (omega arith)) in
    sym (sum_by-cons (λ x. cond (p x) 1 0) x xs ∙ rw (before 0 (omega arith) (omega arith)) (some (count_by p xs) n (sym rest)))
  where
    some : (m n : ℕ) → m ≡ n → 1 + m ≡ suc n
    some m n e = omega arith

pub count-map : {X : Type 0} (p : ℤ → Bool) (f : X → ℤ) (xs : List X) → count_by p (map f xs) ≡ count_by (λ x. p (f x)) xs
count-map p f [] = refl
count-map p f (x ∷ xs) = sum_by-cons (λ y. cond (p y) 1 0) (f x) (map f xs) ∙ ap (λ n. cond (p (f x)) 1 0 + n) (count-map p f xs) ∙ sym (sum_by-cons (λ x. cond (p (f x)) 1 0) x xs)
