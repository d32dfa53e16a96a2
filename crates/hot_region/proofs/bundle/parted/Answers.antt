use Rattle.std.proofs.Common.{◌≡◌, ◌^◌, ◌<◌, w64, FitsSigned, to_z, of_z, to_z-of_z, lit<, ◌∙◌, sym, subst, arith}
use Rattle.std.proofs.Math.IntN.{ℤ, pos, ◌+ℤ◌, ◌-ℤ◌, ◌*ℤ◌}
use Rattle.std.specs.Prelude.{◌<ℤ◌, ◌≤ℤ◌}
use Rattle.std.specs.Int.{int_div_euclid}
use Rattle.std.proofs.lemmas.Int.{ints}
use lib.Signed.{mag}
use Rattle.geom.specs.Limit.{IsWithin}
use Rattle.geom.proofs.Bounds.{fits_64}
use Rattle.geom.proofs.Integers.{linear, mul_comm}
use Rattle.hot_region.specs.Bundle.{IsQuotient}
use Rattle.hot_region.proofs.BundleLaws.{left_over, quotient_is, quotient_small}
use Rattle.hot_region.proofs.bundle.parted.Goals as goal

-- what is computed
abbrev product_of : ℤ → ℤ → ℤ
product_of q r = to_z w64 (of_z w64 q) *ℤ to_z w64 (of_z w64 r)

abbrev rest_of : ℤ → ℤ → ℤ → ℤ
rest_of a r q = to_z w64 (of_z w64 a) -ℤ to_z w64 (of_z w64 (product_of q r))

module _ (a r q : ℤ) (fa : FitsSigned w64 a) (fr : FitsSigned w64 r) (fq : mag q < 9223372036854775808) (p : pos 0 <ℤ r) (small : IsWithin (2 ^ 60) a) (run : r ≤ℤ pos (2 ^ 30))
    (raw : q ≡ int_div_euclid (to_z w64 (of_z w64 a)) (to_z w64 (of_z w64 r))) where
  quotient : IsQuotient a r q
  quotient =
      let e : q ≡ int_div_euclid a r = rw (to_z-of_z fa, to_z-of_z fr) at raw in
      subst (λ x. IsQuotient a r x) (sym e) (quotient_is a r p)

  back : to_z w64 (of_z w64 q) ≡ q
  back = omega (arith, ints)

  left : (pos 0 ≤ℤ (a -ℤ (q *ℤ r))) × ((a -ℤ (q *ℤ r)) <ℤ r)
  left = left_over a r q (q *ℤ r) quotient (λ i. q *ℤ r)

  product_is : product_of q r ≡ q *ℤ r
  product_is = λ i. back i *ℤ to_z-of_z fr i

  product_small : IsWithin (2 ^ 61) (q *ℤ r)
  product_small = bounds a r (q *ℤ r) small run left.0 left.1
    where
      bounds : (a r n : ℤ) → IsWithin (2 ^ 60) a → r ≤ℤ pos (2 ^ 30) → pos 0 ≤ℤ (a -ℤ n) → (a -ℤ n) <ℤ r → IsWithin (2 ^ 61) n
      bounds a r n h k from below = let l = h.low in let u = h.high in record { low = omega (arith, ints); high = omega (arith, ints) }

  product_fits : FitsSigned w64 (product_of q r)
  product_fits = subst (λ x. FitsSigned w64 x) (sym product_is) (fits_64 (2 ^ 61) (q *ℤ r) (lit< tt) product_small)

  rest_is : rest_of a r q ≡ a -ℤ (q *ℤ r)
  rest_is = λ i. to_z-of_z fa i -ℤ (to_z-of_z product_fits ∙ product_is) i

  rest_small : IsWithin (2 ^ 30) (a -ℤ (q *ℤ r))
  rest_small = bounds r (a -ℤ (q *ℤ r)) run left.0 left.1
    where
      bounds : (r n : ℤ) → r ≤ℤ pos (2 ^ 30) → pos 0 ≤ℤ n → n <ℤ r → IsWithin (2 ^ 30) n
      bounds r n k from below = record { low = omega (arith, ints); high = omega (arith, ints) }

  rest_fits : FitsSigned w64 (rest_of a r q)
  rest_fits = subst (λ x. FitsSigned w64 x) (sym rest_is) (fits_64 (2 ^ 30) (a -ℤ (q *ℤ r)) (lit< tt) rest_small)

  answer_is : to_z w64 (of_z w64 (rest_of a r q)) ≡ a -ℤ (q *ℤ r)
  answer_is = to_z-of_z rest_fits ∙ rest_is

  total : a ≡ (r *ℤ to_z w64 (of_z w64 q)) +ℤ to_z w64 (of_z w64 (rest_of a r q))
  total = joined a _ _ _ (mul_comm r q ∙ (λ i. q *ℤ r)) (λ i. r *ℤ back i) answer_is
    where
      joined : (a x y z : ℤ) {n : ℤ} → z ≡ n → x ≡ z → y ≡ a -ℤ n → a ≡ x +ℤ y
      joined a x y z e f g = omega (arith, linear)

  whole_small : IsWithin (2 ^ 60) (to_z w64 (of_z w64 q))
  whole_small = subst (λ x. IsWithin (2 ^ 60) x) (sym back) (quotient_small a r q p small quotient)

pub overflow_mul-result : goal.overflow_mul-result
overflow_mul-result c = product_fits c.args.number c.args.divisor c.div_euclid-quotient.result c.ranges.number c.ranges.divisor c.div_euclid-quotient.type_inv c.requires.positive c.requires.small c.requires.divisor_small c.div_euclid-quotient.ensures

pub overflow_sub-result : goal.overflow_sub-result
overflow_sub-result c = rest_fits c.args.number c.args.divisor c.div_euclid-quotient.result c.ranges.number c.ranges.divisor c.div_euclid-quotient.type_inv c.requires.positive c.requires.small c.requires.divisor_small c.div_euclid-quotient.ensures

pub returns-clause-sum : goal.returns-clause-sum
returns-clause-sum c = total c.args.number c.args.divisor c.div_euclid-quotient.result c.ranges.number c.ranges.divisor c.div_euclid-quotient.type_inv c.requires.positive c.requires.small c.requires.divisor_small c.div_euclid-quotient.ensures

pub returns-clause-from : goal.returns-clause-from
returns-clause-from c = subst (λ x. pos 0 ≤ℤ x) (sym (answer_is c.args.number c.args.divisor c.div_euclid-quotient.result c.ranges.number c.ranges.divisor c.div_euclid-quotient.type_inv c.requires.positive c.requires.small c.requires.divisor_small c.div_euclid-quotient.ensures)) (left c.args.number c.args.divisor c.div_euclid-quotient.result c.ranges.number c.ranges.divisor c.div_euclid-quotient.type_inv c.requires.positive c.requires.small c.requires.divisor_small c.div_euclid-quotient.ensures).0

pub returns-clause-below : goal.returns-clause-below
returns-clause-below c = subst (λ x. x <ℤ c.args.divisor) (sym (answer_is c.args.number c.args.divisor c.div_euclid-quotient.result c.ranges.number c.ranges.divisor c.div_euclid-quotient.type_inv c.requires.positive c.requires.small c.requires.divisor_small c.div_euclid-quotient.ensures)) (left c.args.number c.args.divisor c.div_euclid-quotient.result c.ranges.number c.ranges.divisor c.div_euclid-quotient.type_inv c.requires.positive c.requires.small c.requires.divisor_small c.div_euclid-quotient.ensures).1

pub returns-clause-within : goal.returns-clause-within
returns-clause-within c = whole_small c.args.number c.args.divisor c.div_euclid-quotient.result c.ranges.number c.ranges.divisor c.div_euclid-quotient.type_inv c.requires.positive c.requires.small c.requires.divisor_small c.div_euclid-quotient.ensures
