use Rattle.std.proofs.Common.{take}
use Rattle.hot_region.specs.Halving.{ArePassing}
use Rattle.hot_region.proofs.halving.passing.Given as goal

abbrev pub invariant-loop-line : goal.invariant-loop-line
invariant-loop-line g l = ArePassing l.rect (take l.line-index l.lines) l.part.items
