use Rattle.std.proofs.Common.{take}
use Rattle.hot_region.specs.Beside.{AreParted}
use Rattle.hot_region.proofs.beside.part_at.Given as goal

abbrev pub invariant-loop-place : goal.invariant-loop-place
invariant-loop-place g l = AreParted (take l.place l.lines) l.beside.items l.others.items
