use Rattle.std.proofs.Common.{take, ◌≡◌}
use Rattle.hot_region.specs.Boxes.{boxes_of}
use Rattle.hot_region.specs.Halving.{edges_of}
use Rattle.hot_region.specs.Lines.{HasBothCrossed}
use Rattle.hot_region.proofs.leaf.cross_first.Given as goal

abbrev pub invariant-loop-place : goal.invariant-loop-place
invariant-loop-place g l = HasBothCrossed l.rect (take 32 (take l.place (edges_of l.lines))) (take l.place (edges_of l.lines)) l.initial.found.items l.found.items × (l.boxes ≡ boxes_of (take 32 (take l.place (edges_of l.lines))))
