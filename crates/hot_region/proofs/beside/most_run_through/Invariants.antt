use Rattle.std.proofs.Common.{◌≤◌}
use Rattle.hot_region.proofs.beside.most_run_through.Given as goal

abbrev pub invariant-loop-line : goal.invariant-loop-line
invariant-loop-line l = l.others ≤ l.most
