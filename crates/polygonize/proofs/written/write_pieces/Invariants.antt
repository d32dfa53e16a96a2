use Rattle.std.proofs.Common.{◌≤◌, length}
use Rattle.std.specs.Prelude.{All, is_some, vec_len}
use Rattle.polygonize.proofs.WrittenRings.PiecesWritten.{Entering}
use Rattle.polygonize.specs.Placed.{rings_in}
use Rattle.polygonize.proofs.WrittenRings.Turning.{Adding}
use Rattle.polygonize.proofs.written.write_pieces.Given as goal

abbrev pub invariant-loop-piece : goal.invariant-loop-piece
invariant-loop-piece g l = All (λ piece. 3 ≤ length piece) l.pieces.items × Adding l.initial.pieces.items l.pieces.items (rings_in l.initial.written.items) (rings_in l.written.items) × Entering l.shell (is_some l.owner) l.first l.initial.pieces.items l.pieces.items l.initial.written.items l.written.items

abbrev pub decreases-loop-piece : goal.decreases-loop-piece
decreases-loop-piece g l = vec_len l.pieces
