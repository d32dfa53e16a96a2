use Rattle.std.proofs.Common.{◌≡◌, ℕ, ◌+◌, ◌<◌, ◌^◌, w32, Fits, FitsSigned, to_z, of_z, to_z-of_z, arith}
use Rattle.std.proofs.Math.IntN.{ℤ, ◌-ℤ◌}
use Rattle.std.specs.Prelude.{unsigned_abs}
use Rattle.std.proofs.lemmas.Int.{ints}
use Rattle.geom.specs.Limit.{IsWithin, coordinate_limit}
use Rattle.routing.proofs.StepLaws.{steps_small}
use Rattle.routing.proofs.record.steps_to.Goals as goal

fits : (z : ℤ) → IsWithin coordinate_limit z → FitsSigned w32 z
fits z h = omega (arith, ints)

back : (n : ℕ) (x a : ℤ) → FitsSigned w32 x → FitsSigned w32 a → n ≡ unsigned_abs (to_z w32 (of_z w32 x) -ℤ to_z w32 (of_z w32 a)) → n ≡ unsigned_abs (x -ℤ a)
back n x a f g e = simp to_z-of_z at e

sum_fits : (m n a b : ℕ) → m ≡ a → n ≡ b → a < 2 ^ 30 → b < 2 ^ 30 → Fits w32 (m + n)
sum_fits m n a b e f h k = omega arith

pub overflow_add-result : goal.overflow_add-result
overflow_add-result c =
    let s = c.args.s.now in
    let p = c.args.pixel in
    let h = steps_small s p c.requires.segment_in c.requires.pixel_in in
    let x = back c.abs_diff.result p.x s.a.x (fits p.x c.requires.pixel_in.x_in) (fits s.a.x c.requires.segment_in.a_in.x_in) c.abs_diff.ensures in
    let y = back c.abs_diff-2.result p.y s.a.y (fits p.y c.requires.pixel_in.y_in) (fits s.a.y c.requires.segment_in.a_in.y_in) c.abs_diff-2.ensures in
    sum_fits c.abs_diff.result c.abs_diff-2.result (unsigned_abs (p.x -ℤ s.a.x)) (unsigned_abs (p.y -ℤ s.a.y)) x y h.0 h.1
