use Rattle.polygonize.specs.Leaving.{AreNextPlaces}
use Rattle.polygonize.proofs.successor.next_places.Given as goal

abbrev pub invariant-loop-place : goal.invariant-loop-place
invariant-loop-place g l = AreNextPlaces l.edges.list.now l.from l.place l.next.items
