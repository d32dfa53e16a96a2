use Rattle.std.proofs.Common.{w32, to_z, of_z, arith}
use Rattle.std.proofs.Math.IntN.{ℤ}
use Rattle.std.specs.Prelude.{◌≤ℤ◌}
use Rattle.std.proofs.lemmas.Int.{ints}
use Rattle.geom.specs.Limit.{IsWithin, coordinate_limit}
use Rattle.hot_region.proofs.bundle.is_bundle.Goals as goal

from : (x y : ℤ) → IsWithin coordinate_limit x → x ≤ℤ y → to_z w32 (of_z w32 x) ≤ℤ y
from x y h l = omega (arith, ints)

to : (x y : ℤ) → IsWithin coordinate_limit x → y ≤ℤ x → y ≤ℤ to_z w32 (of_z w32 x)
to x y h l = omega (arith, ints)

pub returns-then-branch : goal.returns-then-branch
returns-then-branch g c = λ t p k h. c.in_ok-run_side_by_side.ensures t p (from c.args.rect.now.lo.x p.x c.requires.a_in.x_in k.left) (to c.args.rect.now.hi.x p.x c.requires.b_in.x_in k.right) h

pub returns-in_ok-run_side_by_side-2 : goal.returns-in_ok-run_side_by_side-2
returns-in_ok-run_side_by_side-2 g c = λ t p k h. c.in_ok-run_side_by_side-2.ensures t p (from c.args.rect.now.lo.y p.y c.requires.a_in.y_in k.bottom) (to c.args.rect.now.hi.y p.y c.requires.b_in.y_in k.top) h
