use Rattle.std.proofs.Common.{◌≤◌}
use Rattle.hot_region.proofs.parting.count_right.Given as goal

abbrev pub invariant-loop-line : goal.invariant-loop-line
invariant-loop-line l = l.count ≤ l.line-index
