use Rattle.std.proofs.Common.{arith, pos}
use Rattle.polygonize.proofs.EdgesBelow.Reaching.{lengthened, longer_itself, longer_more}
use Rattle.polygonize.proofs.short.lengthen.Goals as goal

pub loop-init : goal.loop-init
loop-init g c = longer_itself c.args.numbers.now.items

pub loop-preserved : goal.loop-preserved
loop-preserved g c =
    rw c.in_ok-push.ensures.items (longer_more c.loop.counter c.args.numbers.now.items c.loop.numbers.items (pos 0) (record { sfits = omega arith }) c.loop.invariant)

pub returns : goal.returns
returns g c = lengthened c.loop.counter c.args.numbers.now.items c.loop.numbers.items (omega arith) c.loop.invariant
