use Rattle.std.proofs.Common.{◌∙◌, ap, arith, length, refl}
use Rattle.std.proofs.lemmas.List.{length_push}
use Rattle.engine.proofs.InTurn.{in_order_more, in_order_none}
use Rattle.engine.proofs.alone.in_turn.Goals as goal

pub loop-number-init : goal.loop-number-init
loop-number-init g c = rw c.in_ok-pieces.ensures.items (refl, in_order_none g.J.Piece.Numbered.number_of)

pub loop-number-preserved : goal.loop-number-preserved
loop-number-preserved g c =
    let old = c.loop-number.pieces.items in
    let piece = c.in_ok-piece.piece in
    let now = c.in_ok-push.ensures.items in
    let longer = ap length now in
    let one = length_push old piece in
    let many = c.loop-number.invariant.0 in
    (omega (arith, longer, one, many), in_order_more g.J.Piece.Numbered.number_of c.loop-number.number old _ piece many c.loop-number.invariant.1 c.in_ok-piece.ensures now)

pub returns-clause-one_each : goal.returns-clause-one_each
returns-clause-one_each g c = c.loop-number.invariant.0 ∙ omega (arith, c.loop-number-test.false, c.loop-number.auto.number-end)

pub returns-clause-in_order : goal.returns-clause-in_order
returns-clause-in_order g c = c.loop-number.invariant.1
