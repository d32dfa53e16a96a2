use Rattle.std.proofs.Common.{◌≡◌, map, take}
use Rattle.std.specs.List.{All, filter}
use Rattle.label_sweep.specs.Heights.{IsMeasured, crosses}
use Rattle.label_sweep.proofs.column.list_crossing.Given as goal

-- those of the edges so far
abbrev pub invariant-loop-one : goal.invariant-loop-one
invariant-loop-one g l = (map (λ c. c.spoke.one) l.crossings.items ≡ filter (crosses l.border) (take l.one-index l.counted)) × All (λ c. IsMeasured l.border c.spoke.one.edge c.run c.height) l.crossings.items
