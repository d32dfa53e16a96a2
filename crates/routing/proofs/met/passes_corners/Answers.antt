use Rattle.std.proofs.Common.{◌≡◌, ◌^◌, ◌+◌, w64, FitsSigned, to_z, of_z, to_z-of_z, lit<, arith, IsTrue, Bool, true, false, ap, sym, ◌∙◌}
use Rattle.std.proofs.Math.IntN.{ℤ, pos, neg_ℤ, ◌+ℤ◌, ◌-ℤ◌, ◌*ℤ◌, nat_abs}
use Rattle.std.specs.Prelude.{◌<ℤ◌, ◌≤ℤ◌}
use lib.Signed.{lt_z}
use Rattle.std.proofs.lemmas.Int.{ints}
use Rattle.geom.specs.Limit.{IsWithin}
use Rattle.geom.proofs.Bounds.{fits_64}
use Rattle.routing.specs.Corners.{span}
use Rattle.routing.proofs.CornerLemmas.{Passes, upper_left, not_upper, lower_right, not_lower, between, not_between}
use Rattle.routing.proofs.met.passes_corners.Goals as goal

run_back : (z : ℤ) → IsWithin (2 ^ 29) z → to_z w64 (of_z w64 z) ≡ z
run_back z h = to_z-of_z (fits_64 (2 ^ 29) z (lit< tt) h)

twice_back : (z : ℤ) → IsWithin (2 ^ 60) z → to_z w64 (of_z w64 z) ≡ z
twice_back z h = to_z-of_z (fits_64 (2 ^ 60) z (lit< tt) h)

size_back : (z : ℤ) → IsWithin (2 ^ 30) z → to_z w64 (of_z w64 z) ≡ z
size_back z h = to_z-of_z (fits_64 (2 ^ 30) z (lit< tt) h)

twice_is : (t k z : ℤ) → IsWithin (2 ^ 59) k → k ≡ z → t ≡ to_z w64 (of_z w64 k) +ℤ to_z w64 (of_z w64 k) → t ≡ pos 2 *ℤ z
twice_is t k z h e q = omega (arith, ints)

size_is : (s d e : ℤ) → s ≡ pos (nat_abs d + nat_abs e) → s ≡ span d e
size_is s d e h = omega (arith, ints)

opposite : (s : ℤ) → IsWithin (2 ^ 30) s → to_z w64 (of_z w64 (pos 0 -ℤ to_z w64 (of_z w64 s))) ≡ neg_ℤ s
opposite s h = omega (arith, ints)

opposite_fits : (s : ℤ) → IsWithin (2 ^ 30) s → FitsSigned w64 (pos 0 -ℤ to_z w64 (of_z w64 s))
opposite_fits s h = omega (arith, ints)

-- tests of the code, as facts
yes_above : (z u : ℤ) → u ≡ z → lt_z (pos 0) u ≡ true → pos 0 <ℤ z
yes_above z u e h = omega (arith, ints)

no_above : (z u : ℤ) → u ≡ z → lt_z (pos 0) u ≡ false → z ≤ℤ pos 0
no_above z u e h = omega (arith, ints)

yes_below : (z u : ℤ) → u ≡ z → lt_z u (pos 0) ≡ true → z <ℤ pos 0
yes_below z u e h = omega (arith, ints)

no_below : (z u : ℤ) → u ≡ z → lt_z u (pos 0) ≡ false → pos 0 ≤ℤ z
no_below z u e h = omega (arith, ints)

yes_less : (x y u v : ℤ) → u ≡ x → v ≡ y → lt_z u v ≡ true → x <ℤ y
yes_less x y u v e f h = omega (arith, ints)

no_less : (x y u v : ℤ) → u ≡ x → v ≡ y → lt_z u v ≡ false → y ≤ℤ x
no_less x y u v e f h = omega (arith, ints)

test_less : (x y u v : ℤ) → u ≡ x → v ≡ y → x <ℤ y → lt_z u v ≡ true
test_less x y u v e f h = let t : true ≡ lt_z u v = omega (arith, ints) in sym t

never : {P : Type 0} (t : Bool) → t ≡ false → ¬ P → (IsTrue t → P) × (P → IsTrue t)
never t h n = ((λ q. absurd (let e = q in cc)), (λ p. absurd (n p)))

module _ (d e k w t s : ℤ) (dsmall : IsWithin (2 ^ 29) d) (esmall : IsWithin (2 ^ 29) e) (wsmall : IsWithin (2 ^ 59) w) (wis : w ≡ k)
    (tsmall : IsWithin (2 ^ 60) t) (tis : t ≡ to_z w64 (of_z w64 w) +ℤ to_z w64 (of_z w64 w)) (ssmall : IsWithin (2 ^ 30) s) (sis : s ≡ pos (nat_abs d + nat_abs e)) where
  T : t ≡ pos 2 *ℤ k
  T = twice_is t w k wsmall wis tis

  S : s ≡ span d e
  S = size_is s d e sis

  met : of_z w64 t ≡ of_z w64 s → t ≡ s
  met h = sym (twice_back t tsmall) ∙ ap (to_z w64) h ∙ size_back s ssmall

  met' : of_z w64 t ≡ of_z w64 (pos 0 -ℤ to_z w64 (of_z w64 s)) → t ≡ neg_ℤ s
  met' h = sym (twice_back t tsmall) ∙ ap (to_z w64) h ∙ opposite s ssmall

  unmet : (of_z w64 t ≡ of_z w64 s → ⊥) → ¬ (t ≡ s)
  unmet n h = n (ap (of_z w64) h)

  unmet' : (of_z w64 t ≡ of_z w64 (pos 0 -ℤ to_z w64 (of_z w64 s)) → ⊥) → ¬ (t ≡ neg_ℤ s)
  unmet' n h = n (ap (of_z w64) (h ∙ flip s (to_z w64 (of_z w64 s)) (size_back s ssmall)))
    where
      flip : (s u : ℤ) → u ≡ s → neg_ℤ s ≡ pos 0 -ℤ u
      flip s u h = omega (arith, ints)

  case1 : of_z w64 t ≡ of_z w64 s → lt_z (pos 0) (to_z w64 (of_z w64 d)) ≡ true → (IsTrue (lt_z (to_z w64 (of_z w64 e)) (pos 0)) → Passes d e k) × (Passes d e k → IsTrue (lt_z (to_z w64 (of_z w64 e)) (pos 0)))
  case1 h r =
      let f = upper_left d e k t s T S (met h) (yes_above d _ (run_back d dsmall) r) in
      ((λ q. f.0 (yes_below e _ (run_back e esmall) q)), (λ p. test_less e (pos 0) _ _ (run_back e esmall) (λ i. pos 0) (f.1 p)))

  case2 : of_z w64 t ≡ of_z w64 s → lt_z (pos 0) (to_z w64 (of_z w64 d)) ≡ false → ¬ (Passes d e k)
  case2 h r = not_upper d e k t s T S (met h) (no_above d _ (run_back d dsmall) r)

  case3 : (of_z w64 t ≡ of_z w64 s → ⊥) → of_z w64 t ≡ of_z w64 (pos 0 -ℤ to_z w64 (of_z w64 s)) → lt_z (to_z w64 (of_z w64 d)) (pos 0) ≡ true → (IsTrue (lt_z (pos 0) (to_z w64 (of_z w64 e))) → Passes d e k) × (Passes d e k → IsTrue (lt_z (pos 0) (to_z w64 (of_z w64 e))))
  case3 n h r =
      let f = lower_right d e k t s T S (unmet n) (met' h) (yes_below d _ (run_back d dsmall) r) in
      ((λ q. f.0 (yes_above e _ (run_back e esmall) q)), (λ p. test_less (pos 0) e _ _ (λ i. pos 0) (run_back e esmall) (f.1 p)))

  case4 : (of_z w64 t ≡ of_z w64 s → ⊥) → of_z w64 t ≡ of_z w64 (pos 0 -ℤ to_z w64 (of_z w64 s)) → lt_z (to_z w64 (of_z w64 d)) (pos 0) ≡ false → ¬ (Passes d e k)
  case4 n h r = not_lower d e k t s T S (unmet n) (met' h) (no_below d _ (run_back d dsmall) r)

  case5 : (of_z w64 t ≡ of_z w64 s → ⊥) → (of_z w64 t ≡ of_z w64 (pos 0 -ℤ to_z w64 (of_z w64 s)) → ⊥) → lt_z (to_z w64 (of_z w64 (pos 0 -ℤ to_z w64 (of_z w64 s)))) (to_z w64 (of_z w64 t)) ≡ true
      → (IsTrue (lt_z (to_z w64 (of_z w64 t)) (to_z w64 (of_z w64 s))) → Passes d e k) × (Passes d e k → IsTrue (lt_z (to_z w64 (of_z w64 t)) (to_z w64 (of_z w64 s))))
  case5 n n' r =
      let f = between d e k t s T S (unmet n) (unmet' n') (yes_less (neg_ℤ s) t _ _ (opposite s ssmall) (twice_back t tsmall) r) in
      ((λ q. f.0 (yes_less t s _ _ (twice_back t tsmall) (size_back s ssmall) q)), (λ p. test_less t s _ _ (twice_back t tsmall) (size_back s ssmall) (f.1 p)))

  case6 : (of_z w64 t ≡ of_z w64 s → ⊥) → (of_z w64 t ≡ of_z w64 (pos 0 -ℤ to_z w64 (of_z w64 s)) → ⊥) → lt_z (to_z w64 (of_z w64 (pos 0 -ℤ to_z w64 (of_z w64 s)))) (to_z w64 (of_z w64 t)) ≡ false → ¬ (Passes d e k)
  case6 n n' r = not_between d e k t s T S (unmet n) (unmet' n') (no_less (neg_ℤ s) t _ _ (opposite s ssmall) (twice_back t tsmall) r)

pub returns-then-run-gt0 : goal.returns-then-run-gt0
returns-then-run-gt0 c = case1 _ _ _ _ _ _ c.args.run.dx_small c.args.run.dy_small c.determinant.ensures.small c.determinant.ensures.value c.doubled-twice.ensures.small c.doubled-twice.ensures.value c.span-size.ensures.small c.span-size.ensures.value c.if-twice-size.true c.if-run-gt0.true

pub returns-else-run-gt0 : goal.returns-else-run-gt0
returns-else-run-gt0 c = never _ c.if-run-gt0.false (case2 _ _ _ _ _ _ c.args.run.dx_small c.args.run.dy_small c.determinant.ensures.small c.determinant.ensures.value c.doubled-twice.ensures.small c.doubled-twice.ensures.value c.span-size.ensures.small c.span-size.ensures.value c.if-twice-size.true c.if-run-gt0.false)

pub overflow_sub-size : goal.overflow_sub-size
overflow_sub-size c = opposite_fits _ c.span-size.ensures.small

pub returns-then-run-lt0 : goal.returns-then-run-lt0
returns-then-run-lt0 c = case3 _ _ _ _ _ _ c.args.run.dx_small c.args.run.dy_small c.determinant.ensures.small c.determinant.ensures.value c.doubled-twice.ensures.small c.doubled-twice.ensures.value c.span-size.ensures.small c.span-size.ensures.value c.if-twice-size.false c.if-twice-size-2.true c.if-run-lt0.true

pub returns-else-run-lt0 : goal.returns-else-run-lt0
returns-else-run-lt0 c = never _ c.if-run-lt0.false (case4 _ _ _ _ _ _ c.args.run.dx_small c.args.run.dy_small c.determinant.ensures.small c.determinant.ensures.value c.doubled-twice.ensures.small c.doubled-twice.ensures.value c.span-size.ensures.small c.span-size.ensures.value c.if-twice-size.false c.if-twice-size-2.true c.if-run-lt0.false)

pub overflow_sub-size-2 : goal.overflow_sub-size-2
overflow_sub-size-2 c = opposite_fits _ c.span-size.ensures.small

pub returns-then-size-twice : goal.returns-then-size-twice
returns-then-size-twice c = case5 _ _ _ _ _ _ c.args.run.dx_small c.args.run.dy_small c.determinant.ensures.small c.determinant.ensures.value c.doubled-twice.ensures.small c.doubled-twice.ensures.value c.span-size.ensures.small c.span-size.ensures.value c.if-twice-size.false c.if-twice-size-2.false c.if-size-twice.true

pub returns-else-size-twice : goal.returns-else-size-twice
returns-else-size-twice c = never _ c.if-size-twice.false (case6 _ _ _ _ _ _ c.args.run.dx_small c.args.run.dy_small c.determinant.ensures.small c.determinant.ensures.value c.doubled-twice.ensures.small c.doubled-twice.ensures.value c.span-size.ensures.small c.span-size.ensures.value c.if-twice-size.false c.if-twice-size-2.false c.if-size-twice.false)
