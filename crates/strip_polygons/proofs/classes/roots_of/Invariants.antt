use Rattle.strip_polygons.proofs.RootsInLoops.{AreRootsBefore}
use Rattle.strip_polygons.proofs.classes.roots_of.Given as goal

abbrev pub invariant-loop-number : goal.invariant-loop-number
invariant-loop-number g l = AreRootsBefore l.fn.above.items l.roots.items l.number
