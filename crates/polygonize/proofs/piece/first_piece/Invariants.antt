use Rattle.std.proofs.Common.{◌<◌, length}
use Rattle.polygonize.proofs.RingPieces.FirstPiece.{IsBest}
use Rattle.polygonize.proofs.piece.first_piece.Given as goal

abbrev pub invariant-loop-i : goal.invariant-loop-i
invariant-loop-i g l = (l.best < length l.pieces) × IsBest l.edges.list.now l.least l.pieces l.i l.best
