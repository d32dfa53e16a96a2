use Rattle.std.proofs.Common.{◌≡◌, ◌≤◌, arith, length}
use Rattle.routing.proofs.limited.LimitedSegments.numbers.Goals as goal

pub returns : goal.returns
returns g c =
    let count = length c.args.self.list.now in
    let a : count ≤ c.loop-number.number = c.loop-number-test.false in
    let b : c.loop-number.number ≤ count = c.loop-number.auto.number-end in
    let (size, each) = c.loop-number.invariant in
    record { size = omega (arith, a, b, size); each = λ k d l. each k d (omega (arith, a, b, l)) }
