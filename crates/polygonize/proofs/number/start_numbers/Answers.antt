use Rattle.polygonize.proofs.Numbers.{all_numbers, more_numbers, no_numbers}
use Rattle.polygonize.proofs.number.start_numbers.Goals as goal

pub loop-i-init : goal.loop-i-init
loop-i-init g c = rw c.in_ok-numbers.ensures.items (no_numbers c.args.edges.list.now)

pub loop-i-preserved : goal.loop-i-preserved
loop-i-preserved g c = rw (c.in_ok-push.ensures.items, c.in_ok-counted.ensures) (more_numbers c.args.edges.list.now c.loop-i.i c.loop-i.last c.number_at-last.result c.loop-i.numbers.items c.loop-i-test.true c.number_at-last.ensures c.loop-i.invariant)

pub returns : goal.returns
returns g c = all_numbers c.args.edges.list.now c.loop-i.i c.loop-i.last c.loop-i.numbers.items c.loop-i-test.false c.loop-i.invariant
