use Rattle.std.proofs.Common.{◌≡◌, ◌++◌, drop}
use Rattle.label_sweep.specs.Labels.{stands_from}
use Rattle.label_sweep.proofs.turn.stand.Given as goal

-- what stands, and what will of the rest
abbrev pub invariant-loop-spoke : goal.invariant-loop-spoke
invariant-loop-spoke g l = l.fresh.items ++ stands_from l.at (drop l.spoke-index l.spokes) ≡ stands_from l.fn.left l.spokes
