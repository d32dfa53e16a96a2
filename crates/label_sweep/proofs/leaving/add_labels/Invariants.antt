use Rattle.std.proofs.Common.{◌≡◌, ◌++◌, map, take}
use Rattle.label_sweep.specs.Labels.{labelled_of}
use Rattle.label_sweep.proofs.leaving.add_labels.Given as goal

-- the labels so far
abbrev pub invariant-loop-one : goal.invariant-loop-one
invariant-loop-one g l = l.labelled.items ≡ l.initial.labelled.items ++ map labelled_of (take l.one-index l.standing)
