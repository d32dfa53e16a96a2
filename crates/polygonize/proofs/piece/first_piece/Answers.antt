use Rattle.polygonize.proofs.RingPieces.FirstPiece.{later_held, still_held, first_held}
use Rattle.polygonize.proofs.piece.first_piece.Goals as goal
use Rattle.polygonize.proofs.piece.first_piece.Goals.{then-comes_later, else-comes_later}

pub loop-i-preserved : goal.loop-i-preserved
loop-i-preserved g c = elim c.if-comes_later.branch [
  | then-comes_later w ↦ rw w.best-is (
    c.loop-i-test.true,
    later_held c.args.edges.list.now c.args.least c.args.pieces.now c.loop-i.i c.loop-i.best c.index-pieces-i.result c.index-pieces-best.result c.numbers.result.now c.numbers-in-loop-i.result.now
        c.loop-i-test.true c.loop-i.invariant.0 c.index-pieces-i.is c.index-pieces-best.is c.numbers.ensures c.numbers-in-loop-i.ensures (c.comes_later.ensures.0 w.if-comes_later.true) c.loop-i.invariant.1,
  )
  | else-comes_later w ↦ rw w.best-is (
    c.loop-i.invariant.0,
    still_held c.args.edges.list.now c.args.least c.args.pieces.now c.loop-i.i c.loop-i.best c.index-pieces-i.result c.index-pieces-best.result c.numbers.result.now c.numbers-in-loop-i.result.now
        c.loop-i-test.true c.loop-i.invariant.0 c.index-pieces-i.is c.index-pieces-best.is c.numbers.ensures c.numbers-in-loop-i.ensures (λ l. (let t = c.comes_later.ensures.1 l in let f = w.if-comes_later.false in absurd (cc))) c.loop-i.invariant.1,
  )
]

pub returns-clause-first : goal.returns-clause-first
returns-clause-first g c = first_held c.args.edges.list.now c.args.least c.args.pieces.now c.loop-i.i c.loop-i.best c.requires.sound c.loop-i.invariant.0 c.loop-i-test.false c.loop-i.invariant.1
