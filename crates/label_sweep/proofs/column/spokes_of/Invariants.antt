use Rattle.std.proofs.Common.{◌≡◌, map, take}
use Rattle.label_sweep.proofs.column.spokes_of.Given as goal

-- the edges so far
abbrev pub invariant-loop-crossing : goal.invariant-loop-crossing
invariant-loop-crossing g l = l.spokes.items ≡ map (λ c. c.spoke) (take l.crossing-index l.crossings)
