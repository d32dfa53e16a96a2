use Rattle.std.proofs.Common.{◌≡◌, ◌<◌, ◌^◌, w32, w64, to_z, of_z, subst, arith}
use Rattle.std.proofs.Math.IntN.{ℤ, pos, ◌-ℤ◌, ◌*ℤ◌}
use Rattle.std.specs.Prelude.{◌≤ℤ◌}
use Rattle.std.proofs.lemmas.Int.{ints}
use lib.Signed.{mag}
use Rattle.geom.specs.Limit.{IsWithin, coordinate_limit}
use Rattle.hot_region.proofs.WallLaws.{farthest}
use Rattle.hot_region.proofs.wall.leftmost.Goals as goal

back : (r : ℤ) → mag r < 2 ^ 31 → to_z w32 (of_z w32 r) ≡ r
back r h = omega (arith, ints)

minus_back : (d : ℤ) → IsWithin (2 ^ 29) d → to_z w64 (of_z w64 (pos 0 -ℤ to_z w64 (of_z w64 d))) ≡ pos 0 -ℤ d
minus_back d h = let l = h.low in let u = h.high in omega (arith, ints)

plain_back : (d : ℤ) → IsWithin (2 ^ 29) d → to_z w64 (of_z w64 d) ≡ d
plain_back d h = let l = h.low in let u = h.high in omega (arith, ints)

from : (l x : ℤ) → IsWithin coordinate_limit l → l ≤ℤ x → to_z w32 (of_z w32 l) ≤ℤ x
from l x h k = let a = h.low in let b = h.high in omega (arith, ints)

to : (g x : ℤ) → IsWithin coordinate_limit g → x ≤ℤ g → x ≤ℤ to_z w32 (of_z w32 g)
to g x h k = let a = h.low in let b = h.high in omega (arith, ints)

pub returns-clause-farthest : goal.returns-clause-farthest
returns-clause-farthest c = λ p inside.
    let run = c.args.run in
    let lo = c.requires.a_in in
    let hi = c.requires.b_in in
    let x = c.greatest_times.result in
    let y = c.greatest_times-2.result in
    rw (back x c.greatest_times.type_inv, back y c.greatest_times-2.type_inv)
    (farthest run.dx run.dy p.x p.y x y (subst (λ (f : ℤ). (f *ℤ p.y) ≤ℤ (f *ℤ y)) (plain_back run.dx run.dx_small) (c.greatest_times-2.ensures.greatest p.y (from _ _ lo.y_in inside.bottom) (to _ _ hi.y_in inside.top)))
    (subst (λ (f : ℤ). (f *ℤ p.x) ≤ℤ (f *ℤ x)) (minus_back run.dy run.dy_small) (c.greatest_times.ensures.greatest p.x (from _ _ lo.x_in inside.left) (to _ _ hi.x_in inside.right))))
