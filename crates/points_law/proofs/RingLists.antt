-- Which points and edges the corners of a ring have.
use Rattle.std.proofs.Common.{◌≡◌, ◌⊎◌, inl, inr, false, List, [], ◌∷◌, refl, sym, subst, ⊎_elim}
use Rattle.geom.specs.declared.point.Pt.{Pt}
use Rattle.geom.specs.Order.{IsBefore}
use Rattle.geom.specs.Rings.{along, around}
use Rattle.geom.proofs.Edges.{joining}
use Rattle.geom.proofs.Lists.{In}
use Rattle.points_law.proofs.Choices.{is}
use Rattle.points_law.proofs.Even.{by_test, is_same, is_refl, clash}

-- f of two elements
pub record Pair {X Y : Type 0} (f : X → X → Y) (xs : List X) (t : Y) : Type 0 where
  pub first : X
  pub second : X
  pub is : f first second ≡ t
  pub first_in : In first xs
  pub second_in : In second xs

pub record Step {X Y : Type 0} (f : X → X → Y) (x : X) (ys : List X) (z : X) (t : Y) : Type 0 where
  pub first : X
  pub second : X
  pub is : f first second ≡ t
  pub first_in : In first (x ∷ ys)
  pub second_in : In second ys ⊎ (z ≡ second)

in_along : {X Y : Type 0} (f : X → X → Y) (x : X) (ys : List X) (z : X) (t : Y) → In t (along f x ys z) → Step f x ys z t
in_along f x [] z t (inl q) = record { first = x; second = z; is = q; first_in = inl refl; second_in = inr refl }
in_along f x [] z t (inr k) = absurd k
in_along f x (y ∷ ys) z t (inl q) = record { first = x; second = y; is = q; first_in = inl refl; second_in = inl (inl refl) }
in_along f x (y ∷ ys) z t (inr k) = let m = in_along f y ys z t k in
    record { first = m.first; second = m.second; is = m.is; first_in = inr m.first_in; second_in = ⊎_elim (λ j. inl (inr j)) (λ e. inr e) m.second_in }

-- what goes round a list is made of its elements
pub in_around : {X Y : Type 0} (f : X → X → Y) (xs : List X) (t : Y) → In t (around f xs) → Pair f xs t
in_around f [] t i = absurd i
in_around f (x ∷ xs) t i = let m = in_along f x xs x t i in
    record { first = m.first; second = m.second; is = m.is; first_in = m.first_in; second_in = ⊎_elim (λ j. inr j) (λ e. inl e) m.second_in }

-- ---- of two points one is before the other, or they are one
pub compare : (p q : Pt) → (p ≡ q) ⊎ (IsBefore p q ⊎ IsBefore q p)
compare p q = by_test (is p q) ((p ≡ q) ⊎ (IsBefore p q ⊎ IsBefore q p))
    (λ s. inl (is_same p q s))
    (λ s. inr (either p q (λ e. clash (is q q) (subst (λ w. is w q ≡ false) e s) (is_refl q))))
  where
    either : (p q : Pt) → ¬ (p ≡ q) → IsBefore p q ⊎ IsBefore q p
    either p q n = let j = joining p q n in ⊎_elim
        (λ m. inl (subst (λ w. IsBefore w q) m.0 (subst (λ w. IsBefore j.edge.p w) m.1 j.edge.ordered)))
        (λ m. inr (subst (λ w. IsBefore w p) m.0 (subst (λ w. IsBefore j.edge.p w) m.1 j.edge.ordered)))
        j.ends

-- a point that is not after another one, and is not it, is before it
pub before_other : (p q : Pt) → ¬ (IsBefore q p) → ¬ (q ≡ p) → IsBefore p q
before_other p q n d = ⊎_elim (λ e. absurd (d (sym e))) (λ o. ⊎_elim (λ l. l) (λ g. absurd (n g)) o) (compare p q)

pub neither_before : (p q : Pt) → ¬ (IsBefore p q) → ¬ (IsBefore q p) → p ≡ q
neither_before p q n m = ⊎_elim (λ e. e) (λ o. absurd (⊎_elim n m o)) (compare p q)
