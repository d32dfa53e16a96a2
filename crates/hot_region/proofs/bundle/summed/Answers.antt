use Rattle.std.proofs.Common.{◌≡◌, ◌^◌, ◌<◌, ℕ, FitsSigned, to_z, of_z, to_z-of_z, lit<, ap, ◌∙◌, sym, subst, arith}
use Rattle.std.proofs.Math.IntN.{ℤ, pos, ◌+ℤ◌, ◌*ℤ◌}
use Rattle.std.specs.Int.{w128}
use Rattle.std.proofs.lemmas.Int.{ints}
use Rattle.geom.specs.Limit.{IsWithin}
use Rattle.geom.proofs.Bounds.{fits_128}
use Rattle.hot_region.proofs.bundle.summed.Goals as goal

wrapped : ℤ → ℤ
wrapped x = to_z w128 (of_z w128 x)

back : (n : ℕ) (z : ℤ) → n < 2 ^ 127 → IsWithin n z → wrapped z ≡ z
unfolding wrapped
back n z h k = to_z-of_z (fits_128 n z h k)

module _ (a b c u v w s : ℤ) (a_in : IsWithin (2 ^ 60) a) (b_in : IsWithin (2 ^ 60) b) (c_in : IsWithin (2 ^ 60) c) (ua : u ≡ a) (vb : v ≡ b) (wc : w ≡ c) (step : s ≡ pos 1073741824) where
  first_in : IsWithin (2 ^ 91) (a *ℤ pos 1073741824)
  first_in = let l = a_in.low in let h = a_in.high in record { low = omega (arith, ints); high = omega (arith, ints) }

  second_in : IsWithin (2 ^ 92) ((a *ℤ pos 1073741824) +ℤ b)
  second_in = let l = a_in.low in let h = a_in.high in let m = b_in.low in let k = b_in.high in record { low = omega (arith, ints); high = omega (arith, ints) }

  third_in : IsWithin (2 ^ 123) (((a *ℤ pos 1073741824) +ℤ b) *ℤ pos 1073741824)
  third_in = let l = second_in.low in let h = second_in.high in record { low = omega (arith, ints); high = omega (arith, ints) }

  fourth_in : IsWithin (2 ^ 124) ((((a *ℤ pos 1073741824) +ℤ b) *ℤ pos 1073741824) +ℤ c)
  fourth_in = let l = third_in.low in let h = third_in.high in let m = c_in.low in let k = c_in.high in record { low = omega (arith, ints); high = omega (arith, ints) }

  step_is : wrapped s ≡ pos 1073741824
  step_is = ap wrapped step ∙ back (2 ^ 31) (pos 1073741824) (lit< tt) (record { low = omega (arith, ints); high = omega (arith, ints) })

  first : wrapped (wrapped u *ℤ wrapped s) ≡ a *ℤ pos 1073741824
  first = ap wrapped (λ i. (ap wrapped ua ∙ back (2 ^ 60) a (lit< tt) a_in) i *ℤ step_is i) ∙ back (2 ^ 91) _ (lit< tt) first_in

  second : wrapped (wrapped (wrapped u *ℤ wrapped s) +ℤ wrapped v) ≡ (a *ℤ pos 1073741824) +ℤ b
  second = ap wrapped (λ i. first i +ℤ (ap wrapped vb ∙ back (2 ^ 60) b (lit< tt) b_in) i) ∙ back (2 ^ 92) _ (lit< tt) second_in

  third : wrapped (wrapped (wrapped (wrapped u *ℤ wrapped s) +ℤ wrapped v) *ℤ wrapped s) ≡ ((a *ℤ pos 1073741824) +ℤ b) *ℤ pos 1073741824
  third = ap wrapped (λ i. second i *ℤ step_is i) ∙ back (2 ^ 123) _ (lit< tt) third_in

  sum : wrapped (wrapped (wrapped (wrapped u *ℤ wrapped s) +ℤ wrapped v) *ℤ wrapped s) +ℤ wrapped w ≡ (((a *ℤ pos 1073741824) +ℤ b) *ℤ pos 1073741824) +ℤ c
  sum = λ i. third i +ℤ (ap wrapped wc ∙ back (2 ^ 60) c (lit< tt) c_in) i

  pub sum_fits : FitsSigned w128 (to_z w128 (of_z w128 (to_z w128 (of_z w128 (to_z w128 (of_z w128 (to_z w128 (of_z w128 u) *ℤ to_z w128 (of_z w128 s))) +ℤ to_z w128 (of_z w128 v))) *ℤ to_z w128 (of_z w128 s))) +ℤ to_z w128 (of_z w128 w))
  unfolding wrapped
  sum_fits = subst (λ x. FitsSigned w128 x) (sym sum) (fits_128 (2 ^ 124) _ (lit< tt) fourth_in)

  pub sum_is : to_z w128 (of_z w128 (to_z w128 (of_z w128 (to_z w128 (of_z w128 (to_z w128 (of_z w128 (to_z w128 (of_z w128 u) *ℤ to_z w128 (of_z w128 s))) +ℤ to_z w128 (of_z w128 v))) *ℤ to_z w128 (of_z w128 s))) +ℤ to_z w128 (of_z w128 w))) ≡ (((a *ℤ pos 1073741824) +ℤ b) *ℤ pos 1073741824) +ℤ c
  unfolding wrapped
  sum_is = to_z-of_z sum_fits ∙ sum

pub overflow_add-result-2 : goal.overflow_add-result-2
overflow_add-result-2 c = sum_fits c.args.halves c.args.steps c.args.parts c.from.result c.from-2.result c.from-3.result c.from-step.result c.requires.halves_in c.requires.steps_in c.requires.parts_in (c.from.ensures ∙ to_z-of_z c.ranges.halves) (c.from-2.ensures ∙ to_z-of_z c.ranges.steps) (c.from-3.ensures ∙ to_z-of_z c.ranges.parts) c.from-step.ensures

pub returns : goal.returns
returns c = sum_is c.args.halves c.args.steps c.args.parts c.from.result c.from-2.result c.from-3.result c.from-step.result c.requires.halves_in c.requires.steps_in c.requires.parts_in (c.from.ensures ∙ to_z-of_z c.ranges.halves) (c.from-2.ensures ∙ to_z-of_z c.ranges.steps) (c.from-3.ensures ∙ to_z-of_z c.ranges.parts) c.from-step.ensures
