use Rattle.std.proofs.Common.{◌≡◌, length}
use Rattle.tile_book.specs.Books.{StandInOrder}
use Rattle.chain_gather_tests.proofs.gathering.pieces_of.Given as goal

abbrev pub invariant-loop-tile : goal.invariant-loop-tile
invariant-loop-tile g l = (length l.pieces.items ≡ l.tile) × StandInOrder (λ p. p.number) l.pieces.items
