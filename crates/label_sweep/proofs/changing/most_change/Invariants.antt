use Rattle.std.proofs.Common.{◌≤◌}
use Rattle.label_sweep.proofs.changing.most_change.Given as goal

-- no more than were looked at
abbrev pub invariant-loop-number : goal.invariant-loop-number
invariant-loop-number l = l.changing ≤ l.number
