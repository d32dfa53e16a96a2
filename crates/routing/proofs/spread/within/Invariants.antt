use Rattle.std.proofs.Common.{take}
use Rattle.routing.specs.Spread.{AreThoseIn}
use Rattle.routing.proofs.spread.within.Given as goal

abbrev pub invariant-loop-pixel : goal.invariant-loop-pixel
invariant-loop-pixel g l = AreThoseIn l.fn.rect (take l.pixel-index l.pixels) l.part.items
