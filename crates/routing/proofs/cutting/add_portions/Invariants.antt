use Rattle.routing.proofs.CuttingLaws.{AddsSome}
use Rattle.routing.proofs.cutting.add_portions.Given as goal

abbrev pub invariant-loop-mark : goal.invariant-loop-mark
invariant-loop-mark g l = AddsSome l.whole l.marks l.start l.initial.portions.items l.portions.items
