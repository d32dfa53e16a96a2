use Rattle.edge_test.proofs.Bounding.{HoldsFirst}
use Rattle.edge_test.proofs.tiles.bounds_of.Given as goal

abbrev pub invariant-loop-edge : goal.invariant-loop-edge
invariant-loop-edge l = HoldsFirst l.edges l.edge-index l.bounds
