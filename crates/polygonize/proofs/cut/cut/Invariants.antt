use Rattle.polygonize.proofs.RingPieces.Cutting.{Cutting}
use Rattle.polygonize.proofs.cut.cut.Given as goal

abbrev pub invariant-loop-v : goal.invariant-loop-v
invariant-loop-v g l = Cutting l.ring l.v-index l.stack.items l.place l.pieces.items
