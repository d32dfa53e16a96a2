use Rattle.geom.specs.Rounded.{edges_of}
use Rattle.noding_test.specs.Verdicts.{IsLeastPair}
use Rattle.noding_test.specs.Passes.{IsBadBelow}
use Rattle.noding_test.proofs.pairs.bad_of_all.Given as goal

abbrev pub invariant-loop-tile : goal.invariant-loop-tile
invariant-loop-tile g l = ∥ IsLeastPair (IsBadBelow l.grid l.tile (edges_of l.counted)) l.bad ∥₁
