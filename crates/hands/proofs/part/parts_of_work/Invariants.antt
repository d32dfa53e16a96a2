use Rattle.std.proofs.Common.{◌≤◌}
use Rattle.hands.specs.Consecutive.{ArePartsOf}
use Rattle.hands.proofs.part.parts_of_work.Given as goal

-- the parts up to here
abbrev pub invariant-loop-place : goal.invariant-loop-place
invariant-loop-place g l = ArePartsOf 0 l.from l.all.items × (l.from ≤ l.place)
