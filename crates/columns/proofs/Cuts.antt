-- Offsets that never fall and pass no end, and the lists that they cut.
use Rattle.std.proofs.Common.{◌≡◌, ◌∙◌, ℕ, zero, suc, ◌+◌, ◌-◌, ◌≤◌, ◌<◌, Bool, true, false, cond, List, [], ◌∷◌, ◌++◌, length, get_or, take, drop, Option, Some, None, refl, sym, ap, arith}
use Rattle.std.specs.Prelude.{◌||◌, nat_lt, slice_range}
use Rattle.std.proofs.Math.Seq.{take-add}
use Rattle.std.proofs.lemmas.List.{drop-drop}
use Rattle.std.proofs.lemmas.Bool.Decides.{nat_tests}
use Rattle.columns.specs.Layout.{cut, joined}
use Rattle.columns.specs.Reach.{cut_from}
use Rattle.columns.specs.Refusals.{list_count, wrong_from}

-- ---- offsets that are right

-- behind an offset none falls, and none passes so many items
abbrev pub Rising : ℕ → ℕ → List ℕ → Type 0
Rising count before [] = Unit {0}
Rising count before (o ∷ os) = (before ≤ o) × (o ≤ count) × Rising count o os

not_lt : (a b : ℕ) → nat_lt a b ≡ false → b ≤ a
not_lt a b e = grind (arith, nat_tests)

right_head : (b c : Bool) (k : ℕ) (rest : Option ℕ) → cond (b || c) (Some k) rest ≡ None → (b ≡ false) × (c ≡ false) × (rest ≡ None)
right_head true c k rest e = absurd cc
right_head false true k rest e = absurd cc
right_head false false k rest e = (refl, refl, e)

pub rising_of : (count k before : ℕ) (os : List ℕ) → wrong_from count k before os ≡ None → Rising count before os
rising_of count k before [] e = tt
rising_of count k before (o ∷ os) e =
    let h = right_head (nat_lt o before) (nat_lt count o) k (wrong_from count (k + 1) o os) e in
    (not_lt o before h.0, not_lt count o h.1, rising_of count (k + 1) o os h.2)

pub bounded : (count before : ℕ) (os : List ℕ) → Rising count before os → (i : ℕ) → get_or os i 0 ≤ count
bounded count before [] h i = omega arith
bounded count before (o ∷ os) h zero = h.1
bounded count before (o ∷ os) h (suc i) = bounded count o os h.2 i

above : (count before : ℕ) (os : List ℕ) → Rising count before os → (i : ℕ) → i < length os → before ≤ get_or os i 0
above count before [] h i lt = absurd (omega (arith, lt))
above count before (o ∷ os) h zero lt = h.0
above count before (o ∷ os) h (suc i) lt = let le = above count o os h.2 i (omega (arith, lt)) in let first = h.0 in omega (arith, le, first)

in_order : (count before : ℕ) (os : List ℕ) → Rising count before os → (i j : ℕ) → i ≤ j → j < length os → get_or os i 0 ≤ get_or os j 0
in_order count before [] h i j le lt = absurd (omega (arith, lt))
in_order count before (o ∷ os) h zero zero le lt = omega arith
in_order count before (o ∷ os) h zero (suc j) le lt = above count o os h.2 j (omega (arith, lt))
in_order count before (o ∷ os) h (suc i) zero le lt = absurd (omega (arith, le))
in_order count before (o ∷ os) h (suc i) (suc j) le lt = in_order count o os h.2 i j (omega (arith, le)) (omega (arith, lt))

-- offsets up to the last one are in order
pub ordered : (count before : ℕ) (os : List ℕ) → Rising count before os → (i j : ℕ) → i ≤ j → j ≤ list_count os → get_or os i 0 ≤ get_or os j 0
ordered count before [] h i j le last = omega arith
ordered count before (o ∷ os) h i j le last = in_order count before (o ∷ os) h i j le (omega (arith, last))

-- ---- lists that are cut

shifted : {X : Type 0} (o : ℕ) (os : List ℕ) (items : List X) (k n : ℕ) → cut_from (o ∷ os) items (suc k) n ≡ cut_from os items k n
shifted o os items k zero = refl
shifted o os items k (suc n) = ap (λ t. slice_range items (get_or os k 0) (get_or os (suc k) 0) ∷ t) (shifted o os items (suc k) n)

cut_behind : {X : Type 0} (o : ℕ) (os : List ℕ) (items : List X) → cut (o ∷ os) items ≡ cut_from (o ∷ os) items 0 (length os)
cut_behind o [] items = refl
cut_behind o (p ∷ os) items = ap (λ t. slice_range items o p ∷ t) (cut_behind p os items ∙ sym (shifted o (p ∷ os) items 0 (length os)))

pub cut_is : {X : Type 0} (os : List ℕ) (items : List X) → cut os items ≡ cut_from os items 0 (list_count os)
cut_is [] items = refl
cut_is (o ∷ os) items =
    let e : length os ≡ suc (length os) - 1 = omega arith in
    cut_behind o os items ∙ ap (λ n. cut_from (o ∷ os) items 0 n) e

pub length_cut_from : {X : Type 0} (os : List ℕ) (items : List X) (k n : ℕ) → length (cut_from os items k n) ≡ n
length_cut_from os items k zero = refl
length_cut_from os items k (suc n) = ap suc (length_cut_from os items (suc k) n)

take_cut : {X : Type 0} (os : List ℕ) (items : List X) (m k n : ℕ) → m ≤ n → take m (cut_from os items k n) ≡ cut_from os items k m
take_cut os items zero k n le = refl
take_cut os items (suc m) k zero le = absurd (omega (arith, le))
take_cut os items (suc m) k (suc n) le = ap (λ t. slice_range items (get_or os k 0) (get_or os (suc k) 0) ∷ t) (take_cut os items m (suc k) n (omega (arith, le)))

drop_cut : {X : Type 0} (os : List ℕ) (items : List X) (a k n j m : ℕ) → j ≡ k + a → n ≡ a + m → drop a (cut_from os items k n) ≡ cut_from os items j m
drop_cut os items zero k n j m e f =
    let g : k ≡ j = omega (arith, e) in
    let h : n ≡ m = omega (arith, f) in
    ap (λ i. cut_from os items i n) g ∙ ap (λ i. cut_from os items j i) h
drop_cut os items (suc a) k zero j m e f = absurd (omega (arith, f))
drop_cut os items (suc a) k (suc n) j m e f = drop_cut os items a (suc k) n j m (omega (arith, e)) (omega (arith, f))

-- lists next to one another
pub slice_cut : {X : Type 0} (os : List ℕ) (items : List X) (a b : ℕ) → a ≤ b → b ≤ list_count os → slice_range (cut os items) a b ≡ cut_from os items a (b - a)
slice_cut os items a b le last =
    let n = list_count os in
    ap (λ t. slice_range t a b) (cut_is os items)
    ∙ ap (λ t. take (b - a) t) (drop_cut os items a 0 n a (n - a) (omega arith) (omega (arith, le, last)))
    ∙ take_cut os items (b - a) a (n - a) (omega (arith, last))

-- one list of them
pub get_cut_from : {X : Type 0} (os : List ℕ) (items : List X) (i k n j : ℕ) (d : List X) → i < n → j ≡ k + i → get_or (cut_from os items k n) i d ≡ slice_range items (get_or os j 0) (get_or os (suc j) 0)
get_cut_from os items i k zero j d lt e = absurd (omega (arith, lt))
get_cut_from os items zero k (suc n) j d lt e =
    let g : k ≡ j = omega (arith, e) in
    ap (λ t. slice_range items (get_or os t 0) (get_or os (suc t) 0)) g
get_cut_from os items (suc i) k (suc n) j d lt e = get_cut_from os items i (suc k) n j d (omega (arith, lt)) (omega (arith, e))

-- the first of them
pub cut_next : {X : Type 0} (os : List ℕ) (items : List X) (k n m : ℕ) → n ≡ suc m → cut_from os items k n ≡ slice_range items (get_or os k 0) (get_or os (suc k) 0) ∷ cut_from os items (suc k) m
cut_next os items k n m e = ap (λ t. cut_from os items k t) e

-- one more of them
pub cut_more : {X : Type 0} (os : List ℕ) (items : List X) (k n j : ℕ) → j ≡ k + n → cut_from os items k (suc n) ≡ cut_from os items k n ++ slice_range items (get_or os j 0) (get_or os (suc j) 0) ∷ []
cut_more os items k zero j e =
    let g : k ≡ j = omega (arith, e) in
    ap (λ t. slice_range items (get_or os t 0) (get_or os (suc t) 0) ∷ []) g
cut_more os items k (suc n) j e = ap (λ t. slice_range items (get_or os k 0) (get_or os (suc k) 0) ∷ t) (cut_more os items (suc k) n j (omega (arith, e)))

-- ---- lists behind one another

pub slices_join : {X : Type 0} (xs : List X) (a b c : ℕ) → a ≤ b → b ≤ c → slice_range xs a b ++ slice_range xs b c ≡ slice_range xs a c
slices_join xs a b c le next =
    let e : a + (b - a) ≡ b = omega (arith, le) in
    let f : (b - a) + (c - b) ≡ c - a = omega (arith, le, next) in
    ap (λ t. slice_range xs a b ++ take (c - b) t) (ap (λ n. drop n xs) (sym e) ∙ sym (drop-drop (b - a) a xs))
    ∙ sym (take-add (b - a) (c - b) (drop a xs))
    ∙ ap (λ n. take n (drop a xs)) f

empty_slice : {X : Type 0} (xs : List X) (a : ℕ) → [] ≡ slice_range xs a a
empty_slice xs a =
    let e : 0 ≡ a - a = omega arith in
    ap (λ n. take n (drop a xs)) e

pub joined_cut : {X : Type 0} (os : List ℕ) (items : List X) (count before k n e : ℕ) → Rising count before os → e ≡ k + n → e ≤ list_count os → joined (cut_from os items k n) ≡ slice_range items (get_or os k 0) (get_or os e 0)
joined_cut os items count before k zero e h is last =
    let g : k ≡ e = omega (arith, is) in
    empty_slice items (get_or os k 0) ∙ ap (λ j. slice_range items (get_or os k 0) (get_or os j 0)) g
joined_cut os items count before k (suc n) e h is last =
    ap (λ t. slice_range items (get_or os k 0) (get_or os (suc k) 0) ++ t) (joined_cut os items count before (suc k) n e h (omega (arith, is)) last)
    ∙ slices_join items (get_or os k 0) (get_or os (suc k) 0) (get_or os e 0)
    (ordered count before os h k (suc k) (omega arith) (omega (arith, is, last)))
    (ordered count before os h (suc k) e (omega (arith, is)) last)
