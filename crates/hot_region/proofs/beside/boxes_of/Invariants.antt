use Rattle.std.proofs.Common.{◌≡◌, take}
use Rattle.hot_region.specs.Boxes.{boxes_of}
use Rattle.hot_region.specs.Halving.{edges_of}
use Rattle.hot_region.proofs.beside.boxes_of.Given as goal

abbrev pub invariant-loop-line : goal.invariant-loop-line
invariant-loop-line l = l.boxes ≡ boxes_of (take l.line-index (edges_of l.lines))
