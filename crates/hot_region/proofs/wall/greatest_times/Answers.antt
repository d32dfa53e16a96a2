use Rattle.std.proofs.Common.{to_z-of_z, arith}
use Rattle.std.proofs.lemmas.Int.{ints}
use Rattle.hot_region.proofs.WallLaws.{greatest_low, greatest_high}
use Rattle.hot_region.proofs.wall.greatest_times.Goals as goal

pub returns-then-factor-lt0-clause-greatest : goal.returns-then-factor-lt0-clause-greatest
returns-then-factor-lt0-clause-greatest c = λ x a b. let l = c.if-factor-lt0.true in rw (to_z-of_z c.ranges.low) (greatest_low c.args.factor c.args.low x (omega (arith, ints)) a)

pub returns-else-factor-lt0-clause-greatest : goal.returns-else-factor-lt0-clause-greatest
returns-else-factor-lt0-clause-greatest c = λ x a b. let l = c.if-factor-lt0.false in rw (to_z-of_z c.ranges.high) (greatest_high c.args.factor c.args.high x (omega (arith, ints)) b)
