use Rattle.chain_gather.specs.Gathered.{AreGathered}
use Rattle.chain_gather.proofs.tiles.all_tiles.Given as goal

abbrev pub invariant-loop-tile : goal.invariant-loop-tile
invariant-loop-tile g l = AreGathered l.grid l.segments l.book.held l.tile l.found.records.items l.found.tiles.items l.found.remade
