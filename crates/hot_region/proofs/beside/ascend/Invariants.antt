use Rattle.std.specs.List.{AllAdjacentBelow}
use Rattle.hot_region.specs.Beside.{AreInOrder}
use Rattle.hot_region.proofs.beside.ascend.Given as goal

abbrev pub invariant-loop-k : goal.invariant-loop-k
invariant-loop-k l = AllAdjacentBelow AreInOrder l.items l.k
