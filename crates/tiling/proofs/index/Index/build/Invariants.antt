use Rattle.tiling.proofs.Indexing.{IsBuilt}
use Rattle.tiling.proofs.index.Index.build.Given as goal

abbrev pub invariant-loop-key : goal.invariant-loop-key
invariant-loop-key g l = IsBuilt l.boxes l.key-items l.key-index l.sorted l.numbers.items l.greatest.items l.right
