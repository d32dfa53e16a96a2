use Rattle.std.proofs.Common.{◌≡◌, ◌++◌, drop}
use Rattle.label_sweep.specs.Labels.{directed_of}
use Rattle.label_sweep.proofs.directed.directed_edges.Given as goal

-- the directed edges so far, and those of the rest
abbrev pub invariant-loop-one : goal.invariant-loop-one
invariant-loop-one g l = l.edges.items ++ directed_of l.op (drop l.one-index l.labelled) ≡ directed_of l.op l.labelled
