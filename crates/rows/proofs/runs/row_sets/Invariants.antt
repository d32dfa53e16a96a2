use Rattle.std.proofs.Common.{length, ◌-◌}
use Rattle.rows.proofs.Grouping.{IsGrouped}
use Rattle.rows.proofs.runs.row_sets.Given as goal

abbrev pub invariant-loop-from : goal.invariant-loop-from
invariant-loop-from g l = IsGrouped l.edges l.from l.list.items

abbrev pub decreases-loop-from : goal.decreases-loop-from
decreases-loop-from g l = length l.edges - l.from
