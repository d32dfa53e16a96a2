use Rattle.std.proofs.Common.{take, ◌≤◌, length, ◌-◌}
use Rattle.hot_region.specs.Halving.{edges_of}
use Rattle.hot_region.specs.Lines.{HasBothCrossed}
use Rattle.hot_region.proofs.beside.cross_others.Given as goal

abbrev pub invariant-loop-from : goal.invariant-loop-from
invariant-loop-from g l = (l.from ≤ length l.lines) × HasBothCrossed l.rect (edges_of l.others) (edges_of (take l.from l.lines)) l.initial.found.items l.found.items

abbrev pub decreases-loop-from : goal.decreases-loop-from
decreases-loop-from g l = length l.lines - l.from
