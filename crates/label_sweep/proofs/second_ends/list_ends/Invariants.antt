use Rattle.std.proofs.Common.{◌≡◌, filter, take}
use Rattle.label_sweep.specs.Endings.{are_of}
use Rattle.label_sweep.proofs.StripEnds.{seconds}
use Rattle.label_sweep.proofs.second_ends.list_ends.Given as goal

-- the second ends in the columns so far
abbrev pub invariant-loop-one : goal.invariant-loop-one
invariant-loop-one g l = l.ends.items ≡ filter (are_of l.columns) (take l.one-index (seconds l.counted))
