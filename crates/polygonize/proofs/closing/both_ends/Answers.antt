use Rattle.polygonize.proofs.ClosedVertices.Ends.{more_ends, no_ends}
use Rattle.polygonize.proofs.closing.both_ends.Goals as goal

pub loop-place-init : goal.loop-place-init
loop-place-init g c = rw c.in_ok-ends.ensures.items (no_ends c.args.edges.now)

pub loop-place-preserved : goal.loop-place-preserved
loop-place-preserved g c = rw (c.in_ok-push-2.ensures.items, c.in_ok-push.ensures.items)
    (more_ends c.args.edges.now c.loop-place.place c.loop-place.ends.items c.starting.result c.arriving.result c.starting.ensures c.arriving.ensures c.loop-place.invariant)
