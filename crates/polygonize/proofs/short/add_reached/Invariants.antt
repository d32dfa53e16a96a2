use Rattle.polygonize.specs.Below.{AreFloors}
use Rattle.polygonize.proofs.EdgesBelow.Searching.{AreNearerBut}
use Rattle.polygonize.proofs.short.add_reached.Given as goal

abbrev pub invariant-loop-left : goal.invariant-loop-left
invariant-loop-left l = AreNearerBut l.edges.list.now l.vertices l.number l.at l.past l.left l.initial.best l.best × AreFloors l.edges.list.now l.best l.floors

abbrev pub decreases-loop-left : goal.decreases-loop-left
decreases-loop-left l = l.left
