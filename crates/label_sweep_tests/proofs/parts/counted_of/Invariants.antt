use Rattle.std.specs.Prelude.{AllPairs}
use Rattle.geom.specs.EdgeOrder.{IsEdgeBefore}
use Rattle.label_sweep_tests.proofs.parts.counted_of.Given as goal

-- the edges so far are in their order
abbrev pub invariant-loop-px : goal.invariant-loop-px
invariant-loop-px g l = AllPairs (λ c d. IsEdgeBefore c.edge d.edge) l.counted.items
