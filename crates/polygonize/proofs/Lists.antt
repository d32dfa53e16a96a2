-- Lists whose elements are different; what `geom` has on neighbours and members.
use Rattle.std.proofs.Common.{List, [], ◌∷◌, ◌++◌, refl, sym, subst, inl, inr}
use Rattle.std.specs.Prelude.{IsPermutation}
use Rattle.std.proofs.lemmas.List.Sorted.{IsPermutation-refl, IsPermutation-sym, IsPermutation-trans, IsPermutation-cons, IsPermutation-middle}
use Rattle.geom.proofs.Lists.{In, Distinct, in_front, in_back, in_append}
use Rattle.geom.proofs.RingEdges.{same_order}
use Rattle.geom.proofs.SameRings.{Split, split_at}

-- ---- no element twice
pub distinct_drop : {X : Type 0} (front : List X) (x : X) (back : List X) → Distinct (front ++ x ∷ back) → ¬ (In x (front ++ back)) × Distinct (front ++ back)
distinct_drop [] x back d = d
distinct_drop {X} (y ∷ front) x back d = let r = distinct_drop front x back d.1 in (no r.0, (λ i. d.0 (also i), r.1))
  where
    also : In y (front ++ back) → In y (front ++ x ∷ back)
    also i = elim (in_append front back y i) [ inl j ↦ in_front front (x ∷ back) y j | inr j ↦ in_back front (x ∷ back) y (inr j) ]

    no : ¬ (In x (front ++ back)) → ¬ (In x (y ∷ front ++ back))
    no n (inl e) = d.0 (in_back front (x ∷ back) y (inl (sym e)))
    no n (inr i) = n i

one_more : {X : Type 0} (x : X) (xs ys : List X) → Distinct (x ∷ xs) → Distinct ys → ((z : X) → In z (x ∷ xs) → In z ys) → ((z : X) → In z ys → In z (x ∷ xs)) → Split x ys
    → ((zs : List X) → Distinct zs → ((z : X) → In z xs → In z zs) → ((z : X) → In z zs → In z xs) → IsPermutation xs zs) → IsPermutation (x ∷ xs) ys
one_more {X} x xs ys d e f g s again = IsPermutation-trans _ _ _ (IsPermutation-cons x xs (s.front ++ s.back) (again (s.front ++ s.back) parts.1 there back))
    (IsPermutation-trans _ _ _ (IsPermutation-sym _ _ (IsPermutation-middle s.front x s.back)) (same_order (s.front ++ x ∷ s.back) ys (sym s.is)))
  where
    parts : ¬ (In x (s.front ++ s.back)) × Distinct (s.front ++ s.back)
    parts = distinct_drop s.front x s.back (let P : List X → Type 0 = Distinct in subst P s.is e)

    there : (z : X) → In z xs → In z (s.front ++ s.back)
    there z i = elim (in_append s.front (x ∷ s.back) z (let P : List X → Type 0 = In z in subst P s.is (f z (inr i)))) [
      | inl j ↦ in_front s.front s.back z j
      | inr j ↦ elim j [ inl h ↦ absurd (d.0 (let P : X → Type 0 = λ t. In t xs in subst P (sym h) i)) | inr k ↦ in_back s.front s.back z k ]
    ]

    wider : (z : X) → In z (s.front ++ s.back) → In z (s.front ++ x ∷ s.back)
    wider z i = elim (in_append s.front s.back z i) [ inl j ↦ in_front s.front (x ∷ s.back) z j | inr j ↦ in_back s.front (x ∷ s.back) z (inr j) ]

    back : (z : X) → In z (s.front ++ s.back) → In z xs
    back z i = elim (g z (let P : List X → Type 0 = In z in subst P (sym s.is) (wider z i))) [ inl h ↦ absurd (parts.0 (let P : X → Type 0 = λ t. In t (s.front ++ s.back) in subst P (sym h) i)) | inr j ↦ j ]

-- two lists of different elements with the same elements are one list in two orders
pub same_elements : {X : Type 0} (xs ys : List X) → Distinct xs → Distinct ys → ((x : X) → In x xs → In x ys) → ((x : X) → In x ys → In x xs) → IsPermutation xs ys
same_elements [] [] d e f g = IsPermutation-refl []
same_elements [] (y ∷ ys) d e f g = absurd (g y (inl refl))
same_elements {X} (x ∷ xs) ys d e f g = one_more x xs ys d e f g (split_at x ys (f x (inl refl))) (λ zs dz fz gz. same_elements xs zs d.1 dz fz gz)
