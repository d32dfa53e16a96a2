use Rattle.polygonize.proofs.NumberedWalk.{fewer_left, walk_begun, walk_ended, walk_onward}
use Rattle.polygonize.proofs.cycle.walk.Goals as goal

pub loop-at-init : goal.loop-at-init
loop-at-init g c = rw (c.in_ok-push.ensures.items, c.in_ok-counted.ensures)
    (walk_begun c.args.next.now c.args.cycle_at.now c.args.numbers.now.items c.args.start c.args.number c.requires.same_length c.requires.in_range c.requires.one_to_one c.requires.closed c.requires.inside c.requires.unseen c.requires.number)

pub loop-at-smaller : goal.loop-at-smaller
loop-at-smaller g c = fewer_left c.args.next.now c.args.cycle_at.now c.loop-at.cycle_at c.args.numbers.now.items c.loop-at.numbers.items c.args.start c.loop-at.at c.args.number c.requires.number c.loop-at-test.true c.loop-at.invariant

pub loop-at-preserved : goal.loop-at-preserved
loop-at-preserved g c = rw c.in_ok-push-2.ensures.items
    (walk_onward c.args.next.now c.args.cycle_at.now c.loop-at.cycle_at c.args.numbers.now.items c.loop-at.numbers.items c.args.start c.loop-at.at c.args.number c.requires.in_range c.requires.one_to_one c.requires.number c.loop-at-test.true c.loop-at.invariant)

pub returns : goal.returns
returns g c = walk_ended c.args.next.now c.args.cycle_at.now c.loop-at.cycle_at c.args.numbers.now.items c.loop-at.numbers.items c.args.start c.loop-at.at c.args.number c.loop-at-test.false c.loop-at.invariant
