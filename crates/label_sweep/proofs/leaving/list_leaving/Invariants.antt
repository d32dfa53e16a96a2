use Rattle.std.proofs.Common.{◌≡◌, ◌++◌, drop, flat_map}
use Rattle.label_sweep.specs.Leaving.{leaving_of}
use Rattle.label_sweep.proofs.leaving.list_leaving.Given as goal

-- the directed edges so far, and those of the rest
abbrev pub invariant-loop-one : goal.invariant-loop-one
invariant-loop-one g l = l.edges.items ++ flat_map (leaving_of l.op l.v) (drop l.one-index l.around) ≡ flat_map (leaving_of l.op l.v) l.around
