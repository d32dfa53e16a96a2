use Rattle.strip_polygons.proofs.ClassesLinked.{AreClasses}
use Rattle.strip_polygons.proofs.classes.classes_of.Given as goal

abbrev pub invariant-loop-link : goal.invariant-loop-link
invariant-loop-link g l = AreClasses l.links l.count l.link-index l.above.items
