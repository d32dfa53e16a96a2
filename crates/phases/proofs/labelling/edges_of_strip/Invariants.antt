use Rattle.std.proofs.Common.{◌≡◌, take}
use Rattle.std.specs.List.{filter}
use Rattle.phases.specs.Labels.{begins_in}
use Rattle.phases.proofs.labelling.edges_of_strip.Given as goal

-- those of the edges so far
abbrev pub invariant-loop-one : goal.invariant-loop-one
invariant-loop-one g l = l.own.items ≡ filter (begins_in l.cuts l.strip) (take l.one-index l.counted)
