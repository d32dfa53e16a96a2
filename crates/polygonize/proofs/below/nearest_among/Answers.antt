use Rattle.std.proofs.Common.{arith}
use Rattle.polygonize.specs.Below.{IsAsNear}
use Rattle.polygonize.specs.Next.{edge_at}
use Rattle.polygonize.proofs.EdgesBelow.Nearness.{by_number, none_yet, one_more}
use Rattle.polygonize.proofs.below.nearest_among.Goals as goal

pub loop-number-init : goal.loop-number-init
loop-number-init c = none_yet c.args.edges.list.now c.args.v c.args.numbers.now

pub loop-number-preserved : goal.loop-number-preserved
loop-number-preserved c = one_more c.args.edges.list.now c.args.v c.args.numbers.now c.loop-number.number-index c.loop-number.best c.gap_below.result c.nearer-best.result (c.requires.inside c.loop-number.number-index 0 c.loop-number-test.true)
    c.gap_below.ensures.number c.gap_below.ensures.gap c.nearer-best.ensures c.loop-number.invariant

pub returns-clause-known : goal.returns-clause-known
returns-clause-known c = c.loop-number.invariant.known

pub returns-clause-near : goal.returns-clause-near
returns-clause-near c = by_number (λ k. IsAsNear (edge_at c.args.edges.list.now k) c.args.v c.loop-number.best) c.args.numbers.now (λ m h. c.loop-number.invariant.near m (let t = c.loop-number-test.false in omega arith))
