use Rattle.std.proofs.Common.{◌≤◌, ◌+◌}
use Rattle.hot_region.proofs.halving.shared.Given as goal

abbrev pub invariant-loop-k : goal.invariant-loop-k
invariant-loop-k l = l.count ≤ l.k + l.k
