-- A count over some members of a list, by their numbers, which leave out none that is counted.
use Rattle.std.proofs.Common.{◌≡◌, ℕ, zero, suc, ◌+◌, ◌-◌, ◌<◌, ◌≤◌, Bool, true, false, cond, List, [], ◌∷◌, length, get_or, map, Option, Some, None, refl, sym, ◌∙◌, ap, subst, inl, inr, arith}
use Rattle.std.specs.Prelude.{AllPairs, count_by, slice_get}
use Rattle.std.proofs.lemmas.Bool.{cases_eq}
use Rattle.geom.proofs.Lists.{In, count-cons}
use Rattle.std.proofs.lemmas.Option.{same_Some}

-- ascending, from i on
abbrev From : ℕ → List ℕ → Type 0
From i [] = Unit {0}
From i (n ∷ ns) = (i ≤ n) × From (suc n) ns

from_in : (i : ℕ) (ns : List ℕ) → From i ns → (k : ℕ) → In k ns → i ≤ k
from_in i [] f k j = absurd j
from_in i (n ∷ ns) f k (inl e) = same f.0 e
  where
    same : i ≤ n → n ≡ k → i ≤ k
    same l e = omega arith
from_in i (n ∷ ns) f k (inr j) = later f.0 (from_in (suc n) ns f.1 k j)
  where
    later : i ≤ n → suc n ≤ k → i ≤ k
    later l m = omega arith

pub from_ascending : (i : ℕ) (ns : List ℕ) → ((k : ℕ) → In k ns → i ≤ k) → AllPairs (λ m n. m < n) ns → From i ns
from_ascending i [] b a = tt
from_ascending i (n ∷ ns) b a = (b n (inl refl), from_ascending (suc n) ns (λ k j. above k j) (λ m k d h l. a (suc m) (suc k) d (omega (arith, h)) (omega (arith, l))))
  where
    here : (ms : List ℕ) (k : ℕ) → ((j : ℕ) → j < length ms → suc n ≤ get_or ms j 0) → In k ms → suc n ≤ k
    here [] k f j = absurd j
    here (m ∷ ms) k f (inl e) = let l : suc n ≤ m = f 0 (omega arith) in omega (arith, l, e)
    here (m ∷ ms) k f (inr j) = here ms k (λ i h. f (suc i) (omega (arith, h))) j

    above : (k : ℕ) → In k ns → suc n ≤ k
    above k j = here ns k (λ m h. let l : n < get_or ns m 0 = a 0 (suc m) 0 (omega arith) (omega (arith, h)) in omega (arith, l)) j

past_end : (i k : ℕ) → i + suc k ≡ suc i + k
past_end i k = omega arith

start : (i : ℕ) → i + zero ≡ i
start i = omega arith

heads : {X : Type 0} (x y : X) (xs ys : List X) → x ∷ xs ≡ y ∷ ys → (x ≡ y) × (xs ≡ ys)
heads x y xs ys e = (cc, cc)

not_counted : {X : Type 0} (f : X → Bool) (x : X) (xs : List X) (n : ℕ) → (f x ≡ true → ⊥) → n ≡ count_by f xs → n ≡ count_by f (x ∷ xs)
not_counted f x xs n off e = e ∙ sym (count-cons f x xs ∙ ap (λ t. cond t 1 0 + count_by f xs) (none (f x) off) ∙ plain (count_by f xs))
  where
    none : (b : Bool) → (b ≡ true → ⊥) → b ≡ false
    none true n = absurd (n refl)
    none false n = refl

    plain : (n : ℕ) → 0 + n ≡ n
    plain n = omega arith

counted_too : {X : Type 0} (f : X → Bool) (c x : X) (cs xs : List X) → c ≡ x → count_by f cs ≡ count_by f xs → count_by f (c ∷ cs) ≡ count_by f (x ∷ xs)
counted_too f c x cs xs e h = count-cons f c cs ∙ (λ i. cond (f (e i)) 1 0 + h i) ∙ sym (count-cons f x xs)

pub count_chosen : {X : Type 0} (f : X → Bool) (look : ℕ → Option X) (i : ℕ) (xs : List X) (ns : List ℕ) (chosen : List X) → From i ns → ((k : ℕ) → look (i + k) ≡ slice_get xs k) → map (λ x. Some x) chosen ≡ map look ns
    → ((k : ℕ) (x : X) → slice_get xs k ≡ Some x → f x ≡ true → In (i + k) ns) → count_by f chosen ≡ count_by f xs
count_chosen f look i [] [] [] a l e h = refl
count_chosen f look i [] [] (c ∷ cs) a l e h = absurd (cc)
count_chosen f look i [] (n ∷ ns) [] a l e h = absurd (cc)
count_chosen {X} f look i [] (n ∷ ns) (c ∷ cs) a l e h = absurd (nothing (heads (Some c) (look n) (map (λ x. Some x) cs) (map look ns) e).0 (beyond n a.0))
  where
    beyond : (n : ℕ) → i ≤ n → (k : ℕ) × (i + k ≡ n)
    beyond n b = (n - i, omega (arith, b))

    nothing : Some c ≡ look n → (k : ℕ) × (i + k ≡ n) → ⊥
    nothing p (k, q) = let r : Some c ≡ None = p ∙ ap look (sym q) ∙ l k in cc
count_chosen f look i (x ∷ xs) [] [] a l e h = not_counted f x xs (count_by f []) (λ t. h 0 x refl t)
    (count_chosen f look (suc i) xs [] [] tt (λ k. ap look (sym (past_end i k)) ∙ l (suc k)) refl (λ k y s t. h (suc k) y s t))
count_chosen f look i (x ∷ xs) [] (c ∷ cs) a l e h = absurd (cc)
count_chosen f look i (x ∷ xs) (n ∷ ns) [] a l e h = absurd (cc)
count_chosen {X} f look i (x ∷ xs) (n ∷ ns) (c ∷ cs) a l e h = elim (cases_eq n i) [
  | inl q ↦ counted_too f c x cs xs (same_Some c x (parts.0 ∙ ap look (q ∙ sym (start i)) ∙ l 0)) (count_chosen f look (suc i) xs ns cs (after q) further parts.1 (rest q))
  | inr m ↦ not_counted f x xs (count_by f (c ∷ cs)) (λ t. absurd (before (from_in (suc i) (n ∷ ns) (above m) (i + 0) (h 0 x refl t))))
      (count_chosen f look (suc i) xs (n ∷ ns) (c ∷ cs) (above m) further e (λ k y s t. let P : ℕ → Type 0 = λ t. In t (n ∷ ns) in subst P (past_end i k) (h (suc k) y s t)))
]
  where
    parts : (Some c ≡ look n) × (map (λ x. Some x) cs ≡ map look ns)
    parts = heads (Some c) (look n) (map (λ x. Some x) cs) (map look ns) e

    further : (k : ℕ) → look (suc i + k) ≡ slice_get xs k
    further k = ap look (sym (past_end i k)) ∙ l (suc k)

    after : n ≡ i → From (suc i) ns
    after q = let P : ℕ → Type 0 = λ t. From (suc t) ns in subst P q a.1

    tail : n ≡ i → (k : ℕ) → In (i + suc k) (n ∷ ns) → In (i + suc k) ns
    tail q k (inl p) = absurd (omega (arith, p, q))
    tail q k (inr j) = j

    rest : n ≡ i → (k : ℕ) (y : X) → slice_get xs k ≡ Some y → f y ≡ true → In (suc i + k) ns
    rest q k y s t = let P : ℕ → Type 0 = λ t. In t ns in subst P (past_end i k) (tail q k (h (suc k) y s t))

    more : i ≤ n → ¬ (n ≡ i) → suc i ≤ n
    more b d = omega arith

    above : ¬ (n ≡ i) → From (suc i) (n ∷ ns)
    above m = (more a.0 m, a.1)

    before : suc i ≤ i + 0 → ⊥
    before b = omega arith
