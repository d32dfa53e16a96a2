use Rattle.std.proofs.Common.{◌≡◌, take}
use Rattle.std.specs.List.{filter}
use Rattle.label_sweep.specs.Changing.{changes}
use Rattle.label_sweep.proofs.changing.changing_edges.Given as goal

-- those of the edges so far
abbrev pub invariant-loop-one : goal.invariant-loop-one
invariant-loop-one g l = l.edges.items ≡ filter changes (take l.one-index l.counted)
