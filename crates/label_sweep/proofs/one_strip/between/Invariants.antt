use Rattle.std.proofs.Common.{◌≡◌, take}
use Rattle.std.specs.List.{filter}
use Rattle.label_sweep.specs.StripLabels.{lies_in}
use Rattle.label_sweep.proofs.one_strip.between.Given as goal

-- those of the points so far
abbrev pub invariant-loop-v : goal.invariant-loop-v
invariant-loop-v g l = l.kept.items ≡ filter (lies_in l.first.x l.last.x) (take l.v-index l.points)
