use Rattle.std.proofs.Common.{◌-◌, ◌≤◌}
use Rattle.cover_sets.proofs.halves.common_levels.Given as goal

abbrev pub invariant-loop-levels : goal.invariant-loop-levels
invariant-loop-levels l = (l.least ≤ l.levels) × (l.levels ≤ l.most)

abbrev pub decreases-loop-levels : goal.decreases-loop-levels
decreases-loop-levels l = l.most - l.levels
