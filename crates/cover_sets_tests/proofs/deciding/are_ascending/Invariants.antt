use Rattle.std.proofs.Common.{ℕ, ◌<◌, get_or}
use Rattle.geom.specs.EdgeOrder.{IsEdgeBefore}
use Rattle.cover_law.specs.declared.border.Border.{Border}
use Rattle.cover_sets_tests.proofs.deciding.are_ascending.Given as goal

abbrev pub invariant-loop-k : goal.invariant-loop-k
invariant-loop-k l = (i j : ℕ) (d : Border) → i < j → j < l.k → IsEdgeBefore (get_or l.borders i d).edge (get_or l.borders j d).edge
