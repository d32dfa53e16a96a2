use Rattle.std.proofs.Common.{◌≡◌, ◌^◌, ◌<◌, w64, FitsSigned, to_z, of_z, to_z-of_z, lit<, ap, ◌∙◌, sym, subst, arith}
use Rattle.std.proofs.Math.IntN.{ℤ, pos, ◌+ℤ◌, ◌*ℤ◌}
use Rattle.std.specs.Prelude.{◌<ℤ◌, ◌≤ℤ◌}
use Rattle.std.specs.Int.{w128}
use Rattle.std.proofs.lemmas.Int.{ints}
use lib.Signed.{mag}
use Rattle.geom.specs.Limit.{IsWithin}
use Rattle.geom.proofs.Bounds.{fits_64}
use Rattle.hot_region.specs.Bundle.{IsFloor}
use Rattle.hot_region.proofs.BundleLaws.{three_quotients}
use Rattle.hot_region.proofs.bundle.parts_of.Goals as goal

-- what is left is less than the run
rest_in : (x r : ℤ) → pos 0 ≤ℤ x → x <ℤ r → r ≤ℤ pos (2 ^ 30) → IsWithin (2 ^ 30) x
rest_in x r from below small = record { low = omega (arith, ints); high = omega (arith, ints) }

steps_in : (x : ℤ) → IsWithin (2 ^ 30) x → IsWithin (2 ^ 60) (x *ℤ pos 1073741824)
steps_in x h = let l = h.low in let k = h.high in record { low = omega (arith, ints); high = omega (arith, ints) }

back : (x : ℤ) → IsWithin (2 ^ 60) x → to_z w64 (of_z w64 x) ≡ x
back x h = to_z-of_z (fits_64 (2 ^ 60) x (lit< tt) h)

steps_back : (x : ℤ) → IsWithin (2 ^ 30) x → to_z w64 (of_z w64 (to_z w64 (of_z w64 x) *ℤ pos 1073741824)) ≡ x *ℤ pos 1073741824
steps_back x h = ap (λ z. to_z w64 (of_z w64 (z *ℤ pos 1073741824))) (back x (wide x h)) ∙ back (x *ℤ pos 1073741824) (steps_in x h)
  where
    wide : (x : ℤ) → IsWithin (2 ^ 30) x → IsWithin (2 ^ 60) x
    wide x h = let l = h.low in let k = h.high in record { low = omega (arith, ints); high = omega (arith, ints) }

module _ (h r a b p x y z n : ℤ) (fh : FitsSigned w64 h) (fr : FitsSigned w64 r) (positive : pos 0 <ℤ r) (small : r ≤ℤ pos (2 ^ 30))
    (whole : to_z w64 (of_z w64 h) ≡ (to_z w64 (of_z w64 r) *ℤ a) +ℤ x) (x_from : pos 0 ≤ℤ x) (x_below : x <ℤ to_z w64 (of_z w64 r))
    (steps : to_z w64 (of_z w64 (to_z w64 (of_z w64 x) *ℤ pos 1073741824)) ≡ (to_z w64 (of_z w64 r) *ℤ b) +ℤ y) (y_from : pos 0 ≤ℤ y) (y_below : y <ℤ to_z w64 (of_z w64 r)) where
  x_in : IsWithin (2 ^ 30) x
  x_in = rest_in x r x_from (rw (to_z-of_z fr) at x_below) small

  y_in : IsWithin (2 ^ 30) y
  y_in = rest_in y r y_from (rw (to_z-of_z fr) at y_below) small

  rest_small : IsWithin (2 ^ 60) (to_z w64 (of_z w64 (to_z w64 (of_z w64 y) *ℤ pos 1073741824)))
  rest_small = subst (λ n. IsWithin (2 ^ 60) n) (sym (steps_back y y_in)) (steps_in y y_in)

  module _ (parts : to_z w64 (of_z w64 (to_z w64 (of_z w64 y) *ℤ pos 1073741824)) ≡ (to_z w64 (of_z w64 r) *ℤ p) +ℤ z) (z_from : pos 0 ≤ℤ z) (z_below : z <ℤ to_z w64 (of_z w64 r))
      (a_in : IsWithin (2 ^ 60) a) (b_in : IsWithin (2 ^ 60) b) (p_in : IsWithin (2 ^ 60) p)
      (total : n ≡ (((to_z w64 (of_z w64 a) *ℤ pos (2 ^ 30)) +ℤ to_z w64 (of_z w64 b)) *ℤ pos (2 ^ 30)) +ℤ to_z w64 (of_z w64 p)) (fits : mag n < 170141183460469231731687303715884105728) where
    total_is : n ≡ (((a *ℤ pos (2 ^ 30)) +ℤ b) *ℤ pos (2 ^ 30)) +ℤ p
    total_is = total ∙ (λ i. (((back a a_in i *ℤ pos (2 ^ 30)) +ℤ back b b_in i) *ℤ pos (2 ^ 30)) +ℤ back p p_in i)

    answer_is : to_z w128 (of_z w128 n) ≡ n
    answer_is = omega (arith, ints)

    answer : IsFloor h r (to_z w128 (of_z w128 n))
    answer = subst (λ k. IsFloor h r k) (sym (answer_is ∙ total_is)) (three_quotients h r a b p x y z positive
        (rw (to_z-of_z fh, to_z-of_z fr) at whole)
        (sym (steps_back x x_in) ∙ rw (to_z-of_z fr) at steps)
        (sym (steps_back y y_in) ∙ rw (to_z-of_z fr) at parts)
        z_from (rw (to_z-of_z fr) at z_below))

pub parted-parts-requires-clause-small : goal.parted-parts-requires-clause-small
parted-parts-requires-clause-small c =
    let a = c.parted-halves in
    let b = c.parted-steps in
    rest_small c.args.height c.args.run a.result.0 b.result.0 a.result.0 a.result.1 b.result.1 a.result.0 a.result.0 c.ranges.height c.ranges.run c.requires.positive c.requires.run_small a.ensures.sum a.ensures.from a.ensures.below b.ensures.sum b.ensures.from b.ensures.below

pub returns : goal.returns
returns c =
    let a = c.parted-halves in
    let b = c.parted-steps in
    let p = c.parted-parts in
    answer c.args.height c.args.run a.result.0 b.result.0 p.result.0 a.result.1 b.result.1 p.result.1 c.summed.result c.ranges.height c.ranges.run c.requires.positive c.requires.run_small a.ensures.sum a.ensures.from a.ensures.below b.ensures.sum b.ensures.from b.ensures.below
    p.ensures.sum p.ensures.from p.ensures.below a.ensures.within b.ensures.within p.ensures.within c.summed.ensures c.summed.type_inv
