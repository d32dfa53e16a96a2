use Rattle.std.proofs.Common.{arith}
use Rattle.hot_region.proofs.OrderLaws.{items_ascend}
use Rattle.hot_region.proofs.beside.ascend.Goals as goal

pub returns : goal.returns
returns c = λ t. record { several = omega arith; in_order = items_ascend c.args.items.now (λ k d a. c.loop-k.invariant k d (let e = c.loop-k-test.false in omega arith)) }
