use Rattle.std.specs.List.{AllAdjacentBelow}
use Rattle.hot_region.specs.Bundle.{IsFollowedBy}
use Rattle.hot_region.proofs.bundle.ascend.Given as goal

abbrev pub invariant-loop-k : goal.invariant-loop-k
invariant-loop-k l = AllAdjacentBelow IsFollowedBy l.strands l.k
