use Rattle.std.proofs.Common.{take}
use Rattle.hot_region.specs.Halving.{edges_of, HasEndsToo}
use Rattle.hot_region.proofs.leaf.add_ends.Given as goal

abbrev pub invariant-loop-line : goal.invariant-loop-line
invariant-loop-line g l = HasEndsToo l.rect (take l.line-index (edges_of l.lines)) l.initial.found.items l.found.items
