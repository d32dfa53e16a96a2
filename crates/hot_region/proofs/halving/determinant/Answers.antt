use Rattle.std.proofs.Common.{◌≡◌, ◌^◌, w64, FitsSigned, to_z, of_z, ℤ, to_z-of_z, ◌*ℤ◌, ◌-ℤ◌, lit<}
use Rattle.geom.specs.Limit.{IsWithin}
use Rattle.geom.specs.Determinant.{determinant}
use Rattle.geom.proofs.Bounds.{product_within, difference_within, fits_64}
use Rattle.hot_region.proofs.halving.determinant.Goals as goal

small : (dx dy ex ey : ℤ) → IsWithin (2 ^ 29) dx → IsWithin (2 ^ 29) dy → IsWithin (2 ^ 30) ex → IsWithin (2 ^ 30) ey → IsWithin (2 ^ 60) (determinant dx dy ex ey)
small dx dy ex ey a b c d = difference_within (2 ^ 59) (2 ^ 59) (dx *ℤ ey) (dy *ℤ ex) (product_within (2 ^ 29) (2 ^ 30) dx ey a d) (product_within (2 ^ 29) (2 ^ 30) dy ex b c)

back : (P : ℤ → Type 0) (dx dy ex ey : ℤ) → IsWithin (2 ^ 29) dx → IsWithin (2 ^ 29) dy → IsWithin (2 ^ 30) ex → IsWithin (2 ^ 30) ey → P (determinant dx dy ex ey)
    → P (to_z w64 (of_z w64 (to_z w64 (of_z w64 dx) *ℤ to_z w64 (of_z w64 ey))) -ℤ to_z w64 (of_z w64 (to_z w64 (of_z w64 dy) *ℤ to_z w64 (of_z w64 ex))))
back P dx dy ex ey a b c d t =
    let fdx : FitsSigned w64 dx = fits_64 _ dx (lit< tt) a in
    let fdy : FitsSigned w64 dy = fits_64 _ dy (lit< tt) b in
    let fex : FitsSigned w64 ex = fits_64 _ ex (lit< tt) c in
    let fey : FitsSigned w64 ey = fits_64 _ ey (lit< tt) d in
    let p : FitsSigned w64 (dx *ℤ ey) = fits_64 _ _ (lit< tt) (product_within (2 ^ 29) (2 ^ 30) dx ey a d) in
    let q : FitsSigned w64 (dy *ℤ ex) = fits_64 _ _ (lit< tt) (product_within (2 ^ 29) (2 ^ 30) dy ex b c) in
    simp to_z-of_z t

fits : (dx dy ex ey : ℤ) → IsWithin (2 ^ 29) dx → IsWithin (2 ^ 29) dy → IsWithin (2 ^ 30) ex → IsWithin (2 ^ 30) ey → FitsSigned w64 (determinant dx dy ex ey)
fits dx dy ex ey a b c d = fits_64 (2 ^ 60) (determinant dx dy ex ey) (lit< tt) (small dx dy ex ey a b c d)

pub overflow_sub-result : goal.overflow_sub-result
overflow_sub-result c = back (λ z. FitsSigned w64 z) _ _ _ _ c.args.run.dx_small c.args.run.dy_small c.args.other.dx_small c.args.other.dy_small (fits _ _ _ _ c.args.run.dx_small c.args.run.dy_small c.args.other.dx_small c.args.other.dy_small)

pub returns-clause-value : goal.returns-clause-value
returns-clause-value c = back (λ z. to_z w64 (of_z w64 z) ≡ determinant c.args.run.dx c.args.run.dy c.args.other.dx c.args.other.dy) _ _ _ _ c.args.run.dx_small c.args.run.dy_small c.args.other.dx_small c.args.other.dy_small (to_z-of_z (fits _ _ _ _ c.args.run.dx_small c.args.run.dy_small c.args.other.dx_small c.args.other.dy_small))

pub returns-clause-small : goal.returns-clause-small
returns-clause-small c =
    let f = fits _ _ _ _ c.args.run.dx_small c.args.run.dy_small c.args.other.dx_small c.args.other.dy_small in
    back (λ z. IsWithin (2 ^ 60) (to_z w64 (of_z w64 z))) _ _ _ _ c.args.run.dx_small c.args.run.dy_small c.args.other.dx_small c.args.other.dy_small
    (simp to_z-of_z (small _ _ _ _ c.args.run.dx_small c.args.run.dy_small c.args.other.dx_small c.args.other.dy_small))
