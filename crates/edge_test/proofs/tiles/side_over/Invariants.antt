use Rattle.grid.specs.Tiles.{IsSide}
use Rattle.edge_test.proofs.tiles.side_over.Given as goal

abbrev pub invariant-loop-doubling : goal.invariant-loop-doubling
invariant-loop-doubling l = IsSide l.side
