use Rattle.std.proofs.Common.{◌≡◌, ◌^◌, w32, w64, FitsSigned, to_z, of_z, to_z-of_z, ◌∙◌, ap, arith}
use Rattle.std.proofs.Math.IntN.{ℤ, pos, ◌-ℤ◌, ◌*ℤ◌}
use Rattle.std.specs.Prelude.{◌<ℤ◌, ◌≤ℤ◌}
use Rattle.std.proofs.lemmas.Int.{ints}
use Rattle.geom.specs.Limit.{IsWithin}
use Rattle.geom.specs.Determinant.{determinant}
use Rattle.label_sweep.proofs.column.CrossingEdge.at.Goals as goal

doubled : (d : ℤ) → IsWithin (2 ^ 59) d → FitsSigned w64 (pos 2 *ℤ to_z w64 (of_z w64 d))
doubled d h = omega (arith, ints)

fits : (d y : ℤ) → IsWithin (2 ^ 59) d → IsWithin (2 ^ 29) y → FitsSigned w64 (to_z w64 (of_z w64 (pos 2 *ℤ to_z w64 (of_z w64 d))) -ℤ to_z w64 (of_z w64 y))
fits d y h i = omega (arith, ints)

kept : (r : ℤ) → IsWithin (2 ^ 29) r → to_z w64 (of_z w64 r) ≡ r
kept r h = omega (arith, ints)

height_kept : (d y : ℤ) → IsWithin (2 ^ 59) d → IsWithin (2 ^ 29) y → to_z w64 (of_z w64 (to_z w64 (of_z w64 (pos 2 *ℤ to_z w64 (of_z w64 d))) -ℤ to_z w64 (of_z w64 y))) ≡ pos 2 *ℤ d -ℤ y
height_kept d y h i = omega (arith, ints)

slopes : (r p q x : ℤ) → IsWithin (2 ^ 29) r → r ≡ q -ℤ p → p <ℤ x → x ≤ℤ q → pos 0 <ℤ to_z w64 (of_z w64 r)
slopes r p q x h e i j = omega (arith, ints)

from_border : (r p x : ℤ) → FitsSigned w32 x → r ≡ p -ℤ to_z w32 (of_z w32 x) → r ≡ p -ℤ x
from_border r p x f e = simp to_z-of_z at e

from_axis : (r p : ℤ) → r ≡ p -ℤ pos 0 → r ≡ p
from_axis r p e = omega (arith, ints)

pub overflow_mul-result : goal.overflow_mul-result
overflow_mul-result c = doubled _ c.determinant-at_border.ensures.small

pub overflow_sub-result : goal.overflow_sub-result
overflow_sub-result c = fits _ _ c.determinant-at_border.ensures.small c.vector_to-along.result.dy_small

pub invariant_of-result : goal.invariant_of-result
invariant_of-result c = record { sloping = slopes _ _ _ _ c.vector_to-along.result.dx_small c.vector_to-along.ensures.dx c.requires.begun c.requires.lasts }

pub returns-clause-measured : goal.returns-clause-measured
returns-clause-measured c =
    let along = c.vector_to-along in
    let border = c.vector_to-from_border in
    let d = c.determinant-at_border in
    let left = from_border _ _ _ c.ranges.border border.ensures.dx in
    let up = from_axis _ _ border.ensures.dy in
    record {
      begun = c.requires.begun;
      lasts = c.requires.lasts;
      run_is = kept along.result.dx along.result.dx_small ∙ along.ensures.dx;
      height_is = height_kept d.result along.result.dy d.ensures.small along.result.dy_small ∙ ap (λ (t : ℤ). pos 2 *ℤ t -ℤ along.result.dy) d.ensures.value
          ∙ (λ i. pos 2 *ℤ determinant (along.ensures.dx i) (along.ensures.dy i) (left i) (up i) -ℤ along.ensures.dy i);
    }
