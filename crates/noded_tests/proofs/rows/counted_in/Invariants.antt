use Rattle.std.proofs.Common.{◌+◌, ◌<◌}
use Rattle.std.specs.Prelude.{All, AllPairs}
use Rattle.geom.specs.Box.{IsInBox}
use Rattle.geom.specs.EdgeOrder.{IsEdgeBefore}
use Rattle.geom.specs.Limit.{AreInLimit}
use Rattle.noded_tests.proofs.rows.counted_in.Given as goal

abbrev pub invariant-loop-row : goal.invariant-loop-row
invariant-loop-row g l = record {
  inside : All (λ c. AreInLimit c.edge.p c.edge.q × IsInBox l.bounds.lo l.bounds.hi c.edge.p × IsInBox l.bounds.lo l.bounds.hi c.edge.q) l.counted.items;
  counted : All (λ c. 0 < c.in_a + c.in_b) l.counted.items;
  ascending : AllPairs (λ c d. IsEdgeBefore c.edge d.edge) l.counted.items;
}
