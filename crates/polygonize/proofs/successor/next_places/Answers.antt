use Rattle.polygonize.proofs.NextEdge.Linking.{more_linked, none_linked}
use Rattle.polygonize.proofs.successor.next_places.Goals as goal

pub loop-place-init : goal.loop-place-init
loop-place-init g c = rw c.in_ok-next.ensures.items (none_linked c.args.edges.list.now c.args.from)

pub loop-place-preserved : goal.loop-place-preserved
loop-place-preserved g c = rw (c.in_ok-push.ensures.items, c.in_ok-counted.ensures) (more_linked c.args.edges.list.now c.args.from c.loop-place.place c.loop-place.next.items _ c.next_place.ensures c.loop-place.invariant)
