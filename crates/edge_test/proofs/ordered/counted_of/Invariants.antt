use Rattle.std.proofs.Common.{◌≡◌, ◌+◌, ◌<◌, take}
use Rattle.std.specs.Prelude.{All}
use Rattle.geom.specs.Rounded.{edges_of}
use Rattle.edge_test.proofs.ordered.counted_of.Given as goal

abbrev pub invariant-loop-edge : goal.invariant-loop-edge
invariant-loop-edge g l = record {
  edges : edges_of l.counted.items ≡ take l.edge-index l.edges;
  counted : All (λ c. 0 < c.in_a + c.in_b) l.counted.items;
}
