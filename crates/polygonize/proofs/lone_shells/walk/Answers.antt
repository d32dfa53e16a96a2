use Rattle.polygonize.proofs.ClosesOnce.{closes_of}
use Rattle.polygonize.proofs.LoneWalk.{walk_begun, walk_fewer, walk_on}
use Rattle.polygonize.proofs.Walking.{ended}
use Rattle.polygonize.proofs.lone_shells.walk.Goals as goal

pub loop-at-init : goal.loop-at-init
loop-at-init g c = rw (c.in_ok-push.ensures.items, c.in_ok-counted.ensures, c.clear.ensures.items)
    (walk_begun c.args.edges.list.now c.requires.apart c.args.seen.now c.args.start c.requires.same_length c.requires.closed c.requires.inside c.requires.unseen c.place_after-at.result c.place_after-at.ensures.inside c.place_after-at.ensures.joins)

pub loop-at-smaller : goal.loop-at-smaller
loop-at-smaller g c = walk_fewer c.args.edges.list.now (closes_of c.args.edges.closes) c.args.seen.now c.loop-at.seen c.args.start c.loop-at.at c.loop-at.cycle.items c.loop-at-test.true c.loop-at.invariant

pub loop-at-preserved : goal.loop-at-preserved
loop-at-preserved g c = rw (c.in_ok-push-2.ensures.items, c.in_ok-counted-2.ensures)
    (walk_on c.args.edges.list.now c.requires.apart c.args.seen.now c.loop-at.seen c.args.start c.loop-at.at c.loop-at.cycle.items c.loop-at-test.true c.loop-at.invariant c.place_after-at-in-loop-at.result c.place_after-at-in-loop-at.ensures.inside c.place_after-at-in-loop-at.ensures.joins)

pub returns : goal.returns
returns g c = λ next a o. ended next c.args.seen.now c.loop-at.seen c.args.start c.loop-at.at c.loop-at.cycle.items c.loop-at-test.false (c.loop-at.invariant.along next a o)
