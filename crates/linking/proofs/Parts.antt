-- Parts of a whole: lists without a double that have exactly what is owned.
use Rattle.std.proofs.Common.{◌≡◌, inl, inr, ℕ, ◌+◌, ◌≤◌, List, [], ◌∷◌, ◌++◌, length, refl, sym, ap, subst, ◌∙◌, arith, ⊎_elim}
use Rattle.std.proofs.lemmas.List.Sums.{sum_by-cons}
use Rattle.std.specs.Prelude.{AllPairs, sum_by}
use Rattle.geom.proofs.ListOrder.{pairs_head, pairs_tail}
use Rattle.geom.proofs.Lists.{Distinct, In, in_append}

-- ---- lists without a double have one sum, and one length, where they have the same elements

-- a list without the first place of x in it
record Rest {X : Type 0} (x : X) (ys : List X) : Type 0 where
  rest : List X
  sum_is : (weight : X → ℕ) → sum_by weight ys ≡ weight x + sum_by weight rest
  has : (z : X) → In z ys → (z ≡ x → ⊥) → In z rest

without : {X : Type 0} (x : X) (ys : List X) → In x ys → Rest x ys
without x [] i = absurd i
without {X} x (y ∷ ys) (inl e) = record { rest = ys; sum_is = λ weight. sum_by-cons weight y ys ∙ ap (λ (z : X). weight z + sum_by weight ys) e; has = kept }
  where
    kept : (z : X) → In z (y ∷ ys) → (z ≡ x → ⊥) → In z ys
    kept z (inl q) n = absurd (n (sym q ∙ e))
    kept z (inr i) n = i
without {X} x (y ∷ ys) (inr i) = behind (without x ys i)
  where
    kept : (r : Rest x ys) (z : X) → In z (y ∷ ys) → (z ≡ x → ⊥) → In z (y ∷ r.rest)
    kept r z (inl q) n = inl q
    kept r z (inr j) n = inr (r.has z j n)

    behind : Rest x ys → Rest x (y ∷ ys)
    behind r = record {
      rest = y ∷ r.rest;
      sum_is = λ weight. let a = sum_by-cons weight y ys in let b = sum_by-cons weight y r.rest in let c = r.sum_is weight in omega (arith, a, b, c);
      has = kept r;
    }

fits : {X : Type 0} (weight : X → ℕ) (xs ys : List X) → Distinct xs → ((z : X) → In z xs → In z ys) → sum_by weight xs ≤ sum_by weight ys
fits weight [] ys d f = omega arith
fits weight (x ∷ xs) ys d f =
    let r = without x ys (f x (inl refl)) in
    let h = fits weight xs r.rest d.1 (λ z i. r.has z (f z (inr i)) (λ e. d.0 (subst (λ u. In u xs) e i))) in
    let s = r.sum_is weight in
    let t = sum_by-cons weight x xs in
    omega (arith, h, s, t)

pub same_sum : {X : Type 0} (weight : X → ℕ) (xs ys : List X) → Distinct xs → Distinct ys → ((z : X) → In z xs → In z ys) → ((z : X) → In z ys → In z xs) → sum_by weight xs ≡ sum_by weight ys
same_sum weight xs ys d e f g = omega (arith, fits weight xs ys d f, fits weight ys xs e g)

-- where each weighs one, the sum is the length
pub sum_of_ones : {X : Type 0} (weight : X → ℕ) (xs : List X) → ((x : X) → In x xs → weight x ≡ 1) → sum_by weight xs ≡ length xs
sum_of_ones weight [] h = refl
sum_of_ones weight (x ∷ xs) h =
    let a = sum_by-cons weight x xs in
    let b = h x (inl refl) in
    let c = sum_of_ones weight xs (λ z i. h z (inr i)) in
    omega (arith, a, b, c)

pub same_length : {X : Type 0} (xs ys : List X) → Distinct xs → Distinct ys → ((z : X) → In z xs → In z ys) → ((z : X) → In z ys → In z xs) → length xs ≡ length ys
same_length xs ys d e f g = sym (sum_of_ones (λ x. 1) xs (λ x i. refl)) ∙ same_sum (λ x. 1) xs ys d e f g ∙ sum_of_ones (λ x. 1) ys (λ x i. refl)

pub distinct_append : {X : Type 0} (xs ys : List X) → Distinct xs → Distinct ys → ((z : X) → In z xs → In z ys → ⊥) → Distinct (xs ++ ys)
distinct_append [] ys d e f = e
distinct_append (x ∷ xs) ys d e f = (λ i. ⊎_elim d.0 (λ j. f x (inl refl) j) (in_append xs ys x i), distinct_append xs ys d.1 e (λ z i j. f z (inr i) j))

pub distinct_from : {X : Type 0} (R : X → X → Type 0) (xs : List X) → AllPairs R xs → ((x : X) → In x xs → R x x → ⊥) → Distinct xs
distinct_from R [] h n = tt
distinct_from R (x ∷ xs) h n = (λ i. n x (inl refl) (pairs_head R x xs h x i), distinct_from R xs (pairs_tail R x xs h) (λ z i. n z (inr i)))

-- ---- the parts of a whole
-- n is the number of those that are owned
pub record IsPart {X : Type 0} (Is Owned : X → Type 0) (n : ℕ) : Type 0 where
  pub those : List X
  pub distinct : Distinct those
  pub is : (x : X) → In x those → Is x
  pub owned : (x : X) → In x those → Owned x
  pub all : (x : X) → Is x → Owned x → In x those
  pub number_is : n ≡ length those
