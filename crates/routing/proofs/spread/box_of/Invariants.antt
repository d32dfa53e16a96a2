use Rattle.std.proofs.Common.{take}
use Rattle.routing.proofs.SpreadLaws.{HoldsAll}
use Rattle.routing.proofs.spread.box_of.Given as goal

abbrev pub invariant-loop-pixel : goal.invariant-loop-pixel
invariant-loop-pixel l = HoldsAll (take l.pixel-index l.pixels) l.rect
