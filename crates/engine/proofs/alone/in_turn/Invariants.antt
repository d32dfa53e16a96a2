use Rattle.std.proofs.Common.{◌≡◌, length}
use Rattle.tile_book.specs.Books.{StandInOrder}
use Rattle.engine.proofs.alone.in_turn.Given as goal

abbrev pub invariant-loop-number : goal.invariant-loop-number
invariant-loop-number g l = (length l.pieces.items ≡ l.number) × StandInOrder g.J.Piece.Numbered.number_of l.pieces.items
