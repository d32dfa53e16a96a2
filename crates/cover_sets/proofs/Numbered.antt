-- The sets of numbers, and what numbers keep when a set more is listed.
use Rattle.std.proofs.Common.{◌≡◌, ◌⊎◌, inl, inr, ℕ, zero, suc, ◌-◌, ◌<◌, ◌≤◌, List, [], ◌∷◌, ◌++◌, Bool, true, false, cond, refl, sym, ap, ◌∙◌, arith, subst, ⊎_elim, length, get_or, eqb}
use Rattle.std.proofs.lemmas.Bool.{lt-ltb, le-ltb}
use Rattle.std.proofs.lemmas.List.{get_or_append_left, get_or_push, length_push}
use Rattle.cover_sets.specs.Sets.{IsListed, IsNumber, Keeps, set_of}

-- ---- the kinds of numbers
pub other_than : (m n : ℕ) → ¬ (m ≡ n) → eqb m n ≡ false
other_than m n h = by (eqb m n) refl
  where
    by : (t : Bool) → eqb m n ≡ t → eqb m n ≡ false
    by true e = absurd (h (grind arith))
    by false e = e

abbrev among : List (List ℕ) → ℕ → Bool → List ℕ
among S n t = cond t (get_or S n []) (cond (eqb n 4294967295) [] ((n - 2147483648) ∷ []))

pub of_tree : (S : List (List ℕ)) (n : ℕ) → n < 2147483648 → set_of S n ≡ get_or S n []
of_tree S n h = ap (among S n) (lt-ltb n 2147483648 h)

pub of_other : (S T : List (List ℕ)) (n : ℕ) → 2147483648 ≤ n → set_of S n ≡ set_of T n
of_other S T n h = ap (among S n) (le-ltb n 2147483648 h) ∙ sym (ap (among T n) (le-ltb n 2147483648 h))

pub of_alone : (S : List (List ℕ)) (n : ℕ) → 2147483648 ≤ n → n < 4294967295 → set_of S n ≡ (n - 2147483648) ∷ []
of_alone S n h k = ap (among S n) (le-ltb n 2147483648 h) ∙ ap (λ (t : Bool). cond t [] ((n - 2147483648) ∷ [])) (other_than n 4294967295 (λ e. omega arith))

pub of_empty : (S : List (List ℕ)) (n : ℕ) → n ≡ 4294967295 → set_of S n ≡ []
of_empty S n e = subst (λ (m : ℕ). set_of S m ≡ []) (sym e) refl

-- a tree, a feature alone, or no feature
pub kind_of : (S : List (List ℕ)) (n : ℕ) → IsNumber S n → ((n < 2147483648) × (n < length S)) ⊎ (((2147483648 ≤ n) × (n < 4294967295)) ⊎ (n ≡ 4294967295))
kind_of S n (inl h) = inl h
kind_of S n (inr h) = inr (⊎_elim (λ k. inl (h.0, k)) (λ k. inr (let a = h.1 in omega arith)) (less n 4294967295))
  where
    less : (f g : ℕ) → (f < g) ⊎ (g ≤ f)
    less f zero = inr (omega arith)
    less zero (suc g) = inl (omega arith)
    less (suc f) (suc g) = ⊎_elim (λ k. inl (omega arith)) (λ k. inr (omega arith)) (less f g)

-- ---- one set more
module _ (S : List (List ℕ)) (L : List ℕ) where
  pub number_stays : (n : ℕ) → IsNumber S n → IsNumber (S ++ L ∷ []) n
  number_stays n (inl h) = inl (h.0, (let e = length_push S L in let k = h.1 in omega arith))
  number_stays n (inr h) = inr h

  pub set_stays : (n : ℕ) → IsNumber S n → set_of (S ++ L ∷ []) n ≡ set_of S n
  set_stays n (inl h) = of_tree (S ++ L ∷ []) n h.0 ∙ get_or_append_left S (L ∷ []) [] n h.1 ∙ sym (of_tree S n h.0)
  set_stays n (inr h) = of_other (S ++ L ∷ []) S n h.0

  pub keeps_more : Keeps S (S ++ L ∷ [])
  keeps_more n h = (number_stays n h, set_stays n h)

  pub set_added : length S < 2147483648 → set_of (S ++ L ∷ []) (length S) ≡ L
  set_added h = of_tree (S ++ L ∷ []) (length S) h ∙ get_or_push S L [] (length S) refl

  pub number_added : length S < 2147483648 → IsNumber (S ++ L ∷ []) (length S)
  number_added h = inl (h, (let e = length_push S L in omega arith))

  -- a number is one of those that were there, or that of the set that was added
  pub old_or_new : (n : ℕ) → IsNumber (S ++ L ∷ []) n → IsNumber S n ⊎ (n ≡ length S)
  old_or_new n (inl h) = ⊎_elim (λ k. inl (inl (h.0, k))) (λ k. inr (let e = length_push S L in let b = h.1 in omega arith)) (less n (length S))
    where
      less : (f g : ℕ) → (f < g) ⊎ (g ≤ f)
      less f zero = inr (omega arith)
      less zero (suc g) = inl (omega arith)
      less (suc f) (suc g) = ⊎_elim (λ k. inl (omega arith)) (λ k. inr (omega arith)) (less f g)
  old_or_new n (inr h) = inl (inr h)

pub keeps_then : (S T U : List (List ℕ)) → Keeps S T → Keeps T U → Keeps S U
keeps_then S T U h k n i = let a = h n i in let b = k n a.0 in (b.0, b.1 ∙ a.1)

pub listed_stays : (S T : List (List ℕ)) (set : List ℕ) (n : ℕ) → Keeps S T → IsListed S set n → IsListed T set n
listed_stays S T set n h k = let a = h n k.0 in (a.0, a.1 ∙ k.1)

pub number_within : (S : List (List ℕ)) (n : ℕ) → IsNumber S n → n < 2147483648 → n < length S
number_within S n (inl h) b = h.1
number_within S n (inr h) b = absurd (let a = h.0 in omega arith)
