use Rattle.std.proofs.Common.{arith}
use Rattle.hot_region.proofs.BundleLaws.{all_ascend}
use Rattle.hot_region.proofs.bundle.ascend.Goals as goal

pub returns : goal.returns
returns c = λ t. all_ascend c.args.strands.now (λ k d a. c.loop-k.invariant k d (let e = c.loop-k-test.false in omega arith))
