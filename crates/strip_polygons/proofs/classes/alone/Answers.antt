use Rattle.std.proofs.Common.{refl}
use Rattle.strip_polygons.proofs.ClassesLinked.{one_more_alone}
use Rattle.strip_polygons.proofs.classes.alone.Goals as goal

pub loop-number-preserved : goal.loop-number-preserved
loop-number-preserved g c = rw (c.in_ok-push.ensures.items, one_more_alone, c.loop-number.invariant) refl
