-- Lists with the same members, each once, have one sum.
use Rattle.std.proofs.Common.{◌≡◌, ◌∙◌, inl, inr, ⊎_elim, ℕ, ◌+◌, ◌≤◌, List, [], ◌∷◌, refl, sym, ap, arith, sum_by}
use Rattle.std.specs.List.{AllPairs}
use Rattle.std.specs.Prelude.{◌≢◌}
use Rattle.std.proofs.lemmas.List.Sums.{sum_by-cons}
use Rattle.geom.proofs.ListOrder.{pairs_head, pairs_tail}
use Rattle.geom.proofs.Lists.{In}

module _ {X : Type 0} (f : X → ℕ) where
  without : (ys : List X) (x : X) → In x ys → (zs : List X) × (sum_by f ys ≡ f x + sum_by f zs) × ((z : X) → z ≢ x → In z ys → In z zs)
  without [] x i = absurd i
  without (y ∷ ys) x (inl e) = (ys, sum_by-cons f y ys ∙ ap (λ (w : X). f w + sum_by f ys) e, λ z n j. ⊎_elim (λ k. absurd (n (sym k ∙ e))) (λ k. k) j)
  without (y ∷ ys) x (inr i) =
      let r = without ys x i in
      let a = sum_by-cons f y ys in
      let b = sum_by-cons f y r.0 in
      let c = r.1 in
      (y ∷ r.0, omega (arith, a, b, c), λ z n j. ⊎_elim (λ k. inl k) (λ k. inr (r.2 z n k)) j)

  pub at_most : (xs ys : List X) → AllPairs (λ (s t : X). s ≢ t) xs → ((x : X) → In x xs → In x ys) → sum_by f xs ≤ sum_by f ys
  at_most [] ys once h = omega arith
  at_most (x ∷ xs) ys once h =
      let r = without ys x (h x (inl refl)) in
      let more = at_most xs r.0 (pairs_tail (λ (s t : X). s ≢ t) x xs once) (λ z i. r.2 z (λ e. pairs_head (λ (s t : X). s ≢ t) x xs once z i (sym e)) (h z (inr i))) in
      let a = sum_by-cons f x xs in
      let b = r.1 in
      omega (arith, a, b, more)
