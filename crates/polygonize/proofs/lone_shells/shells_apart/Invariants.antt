use Rattle.polygonize.proofs.LoneWalk.{LoneSoFar}
use Rattle.polygonize.proofs.lone_shells.shells_apart.Given as goal

abbrev pub invariant-loop-start : goal.invariant-loop-start
invariant-loop-start g l = LoneSoFar l.edges.list.now l.seen.items l.start l.polygons.items
