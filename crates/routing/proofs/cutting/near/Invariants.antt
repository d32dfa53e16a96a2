use Rattle.routing.specs.Cutting.{AreAmong}
use Rattle.routing.proofs.cutting.near.Given as goal

abbrev pub invariant-loop-place : goal.invariant-loop-place
invariant-loop-place g l = AreAmong l.marks l.kept.items
