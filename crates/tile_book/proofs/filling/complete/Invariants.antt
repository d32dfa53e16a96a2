use Rattle.std.proofs.Common.{◌≤◌, vec_capacity}
use Rattle.tile_book.proofs.Completed.{IsPartWay}
use Rattle.tile_book.proofs.Emptied.{AreEmptied}
use Rattle.tile_book.proofs.filling.complete.Given as goal

abbrev pub invariant-loop-number : goal.invariant-loop-number
invariant-loop-number g l =
    IsPartWay g.J.Piece.Numbered.number_of l.fn.book.limit l.number l.held.items l.pieces.items
    × (l.fn.book.limit ≤ vec_capacity l.pieces)
    × (l.remade ≤ l.number)
    × AreEmptied l.fn.book.held l.held.items l.pieces.items l.number l.remade
