use Rattle.std.proofs.Common.{take}
use Rattle.hot_region.specs.Lines.{HasBothCrossed}
use Rattle.hot_region.specs.Halving.{edges_of}
use Rattle.hot_region.proofs.beside.cross_few.Given as goal

abbrev pub invariant-loop-other : goal.invariant-loop-other
invariant-loop-other g l = HasBothCrossed l.rect (take l.other-index (edges_of l.others)) (edges_of l.lines) l.initial.found.items l.found.items
