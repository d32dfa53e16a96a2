use Rattle.polygonize.proofs.EdgesBelow.Nearness.{NearestSoFar}
use Rattle.polygonize.proofs.below.nearest_among.Given as goal

abbrev pub invariant-loop-number : goal.invariant-loop-number
invariant-loop-number l = NearestSoFar l.edges.list.now l.v l.numbers l.number-index l.best
