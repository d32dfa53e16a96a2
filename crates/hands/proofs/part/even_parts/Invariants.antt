use Rattle.std.proofs.Common.{◌-◌, ◌≤◌}
use Rattle.hands.specs.Consecutive.{ArePartsOf}
use Rattle.hands.proofs.part.even_parts.Given as goal

-- the parts up to here
abbrev pub invariant-loop-from : goal.invariant-loop-from
invariant-loop-from g l = ArePartsOf 0 l.from l.all.items × (l.from ≤ l.length)

abbrev pub decreases-loop-from : goal.decreases-loop-from
decreases-loop-from g l = l.length - l.from
