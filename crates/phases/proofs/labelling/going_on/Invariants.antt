use Rattle.std.proofs.Common.{◌≡◌, ◌++◌, take}
use Rattle.std.specs.List.{filter}
use Rattle.phases.specs.Labels.{goes_on}
use Rattle.phases.proofs.labelling.going_on.Given as goal

-- those of the edges that come into the strip, so far
abbrev pub invariant-loop-come : goal.invariant-loop-come
invariant-loop-come g l = l.going.items ≡ filter (goes_on l.cuts l.strip) (take l.come-index l.crossing)

-- all of them, and those of its own, so far
abbrev pub invariant-loop-begun : goal.invariant-loop-begun
invariant-loop-begun g l = l.going.items ≡ filter (goes_on l.cuts l.strip) l.fn.crossing ++ filter (goes_on l.cuts l.strip) (take l.begun-index l.own)
