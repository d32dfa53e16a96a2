use Rattle.std.proofs.Common.{◌≡◌, ◌^◌, w64, FitsSigned, to_z, of_z, to_z-of_z, lit<, arith}
use Rattle.std.proofs.Math.IntN.{ℤ, pos, ◌-ℤ◌, ◌*ℤ◌}
use Rattle.std.specs.Int.{w128}
use Rattle.std.proofs.lemmas.Int.{ints}
use Rattle.geom.specs.Limit.{IsWithin}
use Rattle.geom.proofs.Bounds.{product_within, fits_128}
use Rattle.polygonize.proofs.ladder.height_over.Goals as goal

scaled_fits : (z r : ℤ) → IsWithin (2 ^ 59) z → r ≡ to_z w64 (of_z w64 (pos 0 -ℤ to_z w64 (of_z w64 z))) → FitsSigned w128 (to_z w128 (of_z w128 r) *ℤ pos 576_460_752_303_423_488)
scaled_fits z r h e =
    let small : IsWithin (2 ^ 59) r = record { low = omega (arith, ints); high = omega (arith, ints) } in
    let scale : IsWithin (2 ^ 59) (pos 576_460_752_303_423_488) = record { low = omega (arith, ints); high = omega (arith, ints) } in
    let f : FitsSigned w128 r = fits_128 _ r (lit< tt) small in
    simp to_z-of_z (fits_128 _ (r *ℤ pos 576_460_752_303_423_488) (lit< tt) (product_within (2 ^ 59) (2 ^ 59) r (pos 576_460_752_303_423_488) small scale))

pub overflow_mul-from : goal.overflow_mul-from
overflow_mul-from c = scaled_fits _ _ c.side-rise.ensures.small c.from.ensures
