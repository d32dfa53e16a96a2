use Rattle.std.proofs.Common.{◌-◌, ◌≤◌, length, List}
use Rattle.std.specs.Prelude.{AllPairs}
use Rattle.geom.specs.declared.directed.DirectedEdge.{DirectedEdge}
use Rattle.geom.specs.Directed.{IsDirectedBefore}
use Rattle.polygonize.specs.Closing.{AreSortedEnds}
use Rattle.polygonize.proofs.ClosedVertices.Found.{Seen}
use Rattle.polygonize.proofs.closing.first_found.Given as goal

abbrev pub invariant-loop-from : goal.invariant-loop-from
invariant-loop-from l = (l.from ≤ length l.ends) × ((ds : List DirectedEdge) → AllPairs IsDirectedBefore ds → AreSortedEnds ds l.ends → Seen ds l.ends l.from l.found)

abbrev pub decreases-loop-from : goal.decreases-loop-from
decreases-loop-from l = length l.ends - l.from
