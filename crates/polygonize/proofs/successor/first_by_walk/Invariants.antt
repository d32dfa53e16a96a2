use Rattle.polygonize.proofs.NextEdge.Looking.{Looked}
use Rattle.polygonize.proofs.successor.first_by_walk.Given as goal

abbrev pub invariant-loop-place : goal.invariant-loop-place
invariant-loop-place l = Looked l.edges.list.now l.first l.place l.u l.best
