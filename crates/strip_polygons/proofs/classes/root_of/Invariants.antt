use Rattle.strip_polygons.proofs.RootsInLoops.{Climbs}
use Rattle.strip_polygons.proofs.classes.root_of.Given as goal

abbrev pub invariant-loop-above : goal.invariant-loop-above
invariant-loop-above l = Climbs l.fn.above l.above l.number l.at

abbrev pub decreases-loop-above : goal.decreases-loop-above
decreases-loop-above l = l.at
