use Rattle.std.proofs.Common.{List, [], length, take, ◌≤◌, ◌-◌}
use Rattle.geom.specs.declared.point.Pt.{Pt}
use Rattle.hot_region.specs.Halving.{edges_of, HasEndsToo}
use Rattle.hot_region.specs.Lines.{HasBothCrossed}
use Rattle.hot_region.proofs.leaf.hot_by_pairs.Given as goal

abbrev pub invariant-loop-from : goal.invariant-loop-from
invariant-loop-from g l = (l.from ≤ length l.left) × ((mid : List Pt) × HasEndsToo l.rect (edges_of l.lines) [] mid × HasBothCrossed l.rect (take l.from (edges_of l.left)) (edges_of l.left) mid l.found.items)

abbrev pub decreases-loop-from : goal.decreases-loop-from
decreases-loop-from g l = length l.left - l.from
