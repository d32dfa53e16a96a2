-- Lists: what holds of all elements, ascending lists, and lists in two parts.
use Rattle.std.proofs.Common.{◌≡◌, ◌⊎◌, inl, inr, ℕ, suc, ◌+◌, ◌<◌, ◌≤◌, List, [], ◌∷◌, ◌++◌, refl, sym, ap, ◌∙◌, arith, subst, ⊎_elim, length}
use Rattle.std.specs.List.{All, AllPairs}
use Rattle.std.proofs.lemmas.List.Kept.{AllPairs-cons}
use Rattle.geom.proofs.Lists.{In, in_append, in_contains}
use Rattle.geom.proofs.ListOrder.{pairs_head, pairs_tail}
use Rattle.geom.proofs.Owners.{all_in}

pub of_all : {X : Type 0} (P : X → Type 0) (xs : List X) → All P xs → (x : X) → In x xs → P x
of_all P xs h x i = let c = in_contains xs x i in subst P c.2 (h c.0 x c.1)

abbrev pub Ascend : List ℕ → Type 0
Ascend xs = AllPairs (λ (f g : ℕ). f < g) xs

pub ascend_both : (xs ys : List ℕ) → Ascend xs → Ascend ys → ((x y : ℕ) → In x xs → In y ys → x < y) → Ascend (xs ++ ys)
ascend_both [] ys h k l = k
ascend_both (x ∷ xs) ys h k l = AllPairs-cons (λ (f g : ℕ). f < g) x (xs ++ ys)
    (all_in (λ (g : ℕ). x < g) (xs ++ ys) (λ g i. ⊎_elim (λ j. pairs_head (λ (a b : ℕ). a < b) x xs h g j) (λ j. l x g (inl refl) j) (in_append xs ys g i)))
    (ascend_both xs ys (pairs_tail (λ (a b : ℕ). a < b) x xs h) k (λ a b i j. l a b (inr i) j))

-- an ascending list has no more elements than there are numbers
pub few_ascend : (low past : ℕ) (xs : List ℕ) → Ascend xs → ((x : ℕ) → In x xs → (low ≤ x) × (x < past)) → low ≤ past → low + length xs ≤ past
few_ascend low past [] h k l = omega arith
few_ascend low past (x ∷ xs) h k l =
    let at = k x (inl refl) in
    let rest = few_ascend (suc x) past xs (pairs_tail (λ (a b : ℕ). a < b) x xs h) (λ y i. let b = pairs_head (λ (c d : ℕ). c < d) x xs h y i in let e = k y (inr i) in (omega arith, omega arith)) (omega arith) in
    omega arith

some_in : {X : Type 0} (x : X) (xs : List X) → In x (x ∷ xs)
some_in x xs = inl refl

module _ (P Q : ℕ → Type 0) (never : (x : ℕ) → P x → Q x → ⊥) where
  -- a list has one way in which all of its front have one property, and all that is behind another one that excludes it
  pub one_split : (xs ys us vs : List ℕ) → xs ++ ys ≡ us ++ vs → ((x : ℕ) → In x xs → P x) → ((x : ℕ) → In x ys → Q x) → ((x : ℕ) → In x us → P x) → ((x : ℕ) → In x vs → Q x) → (xs ≡ us) × (ys ≡ vs)
  one_split [] ys [] vs e a b c d = (refl, e)
  one_split [] ys (u ∷ us) vs e a b c d = absurd (never u (c u (inl refl)) (b u (subst (In u) (sym e) (inl refl))))
  one_split (x ∷ xs) ys [] vs e a b c d = absurd (never x (a x (inl refl)) (d x (subst (In x) e (inl refl))))
  one_split (x ∷ xs) ys (u ∷ us) vs e a b c d =
      let h : x ≡ u = cc in
      let t : xs ++ ys ≡ us ++ vs = cc in
      let r = one_split xs ys us vs t (λ y i. a y (inr i)) b (λ y i. c y (inr i)) d in
      (ap (λ (y : ℕ). y ∷ xs) h ∙ ap (λ (l : List ℕ). u ∷ l) r.0, r.1)
