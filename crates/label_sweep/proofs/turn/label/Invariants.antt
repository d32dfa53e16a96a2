use Rattle.std.proofs.Common.{◌≡◌, ◌++◌, drop}
use Rattle.label_sweep.specs.Labels.{labels_from}
use Rattle.label_sweep.proofs.turn.label.Given as goal

-- what is labelled, and the labels of the rest
abbrev pub invariant-loop-spoke : goal.invariant-loop-spoke
invariant-loop-spoke g l = l.labelled.items ++ labels_from l.at (drop l.spoke-index l.spokes) ≡ l.initial.labelled.items ++ labels_from l.fn.left l.spokes
