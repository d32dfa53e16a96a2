use Rattle.std.proofs.Common.{◌≡◌, ◌++◌, drop}
use Rattle.label_sweep.specs.Swept.{besides_from}
use Rattle.label_sweep.proofs.turn.list_beside.Given as goal

-- what is listed, and the rest
abbrev pub invariant-loop-spoke : goal.invariant-loop-spoke
invariant-loop-spoke g l = l.swept.items ++ besides_from l.beside (drop l.spoke-index l.spokes) ≡ l.initial.swept.items ++ besides_from l.fn.first l.spokes
