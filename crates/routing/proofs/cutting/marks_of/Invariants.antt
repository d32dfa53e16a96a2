use Rattle.routing.specs.Cutting.{AreMarks}
use Rattle.routing.proofs.cutting.marks_of.Given as goal

abbrev pub invariant-loop-place : goal.invariant-loop-place
invariant-loop-place g l = AreMarks l.table l.marks.items
