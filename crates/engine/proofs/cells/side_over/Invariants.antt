use Rattle.grid.specs.Tiles.{IsSide}
use Rattle.engine.proofs.cells.side_over.Given as goal

abbrev pub invariant-loop-halving : goal.invariant-loop-halving
invariant-loop-halving l = IsSide l.side
