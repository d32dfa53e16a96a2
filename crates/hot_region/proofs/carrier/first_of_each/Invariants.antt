use Rattle.std.proofs.Common.{take}
use Rattle.hot_region.specs.Carriers.{HasOneOfEach}
use Rattle.hot_region.proofs.carrier.first_of_each.Given as goal

abbrev pub invariant-loop-place : goal.invariant-loop-place
invariant-loop-place g l = HasOneOfEach l.lines (take l.place l.items) l.kept.items
