use Rattle.std.proofs.Common.{take}
use Rattle.routing.specs.Cutting.{AreCut}
use Rattle.routing.proofs.cutting.cut_at.Given as goal

abbrev pub invariant-loop-whole : goal.invariant-loop-whole
invariant-loop-whole g l = AreCut l.table (take l.whole-index l.table) l.portions.items
