use Rattle.std.proofs.Common.{◌≤◌}
use Rattle.hot_region.proofs.parting.part_lines.Given as goal

abbrev pub invariant-loop-line : goal.invariant-loop-line
invariant-loop-line l = (l.first ≤ l.line-index) × (l.second ≤ l.line-index) × (l.both ≤ l.line-index)
