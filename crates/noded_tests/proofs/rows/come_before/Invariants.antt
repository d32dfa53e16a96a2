use Rattle.std.proofs.Common.{take}
use Rattle.std.specs.Prelude.{All}
use Rattle.geom.specs.EdgeOrder.{IsEdgeBefore}
use Rattle.noded_tests.proofs.rows.come_before.Given as goal

abbrev pub invariant-loop-item : goal.invariant-loop-item
invariant-loop-item l = All (λ c. IsEdgeBefore c.edge l.edge) (take l.item-index l.counted)
