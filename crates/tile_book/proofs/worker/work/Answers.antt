use Rattle.std.proofs.Common.{◌≡◌, ◌≤◌, ◌++◌, ◌∷◌, [], length, length-append, arith, ap, sym, ◌∙◌}
use Rattle.std.proofs.lemmas.List.{append-nil}
use Rattle.tile_book.proofs.Above.{above, above_le, above_push, longer}
use Rattle.tile_book.proofs.worker.work.Goals as goal

pub overflow_add-returned : goal.overflow_add-returned
overflow_add-returned g c =
    let some = c.in-Some.ensures.some in
    let i = c.loop-number.invariant in
    let n = c.in-Some.number in
    let low : above c.loop-number.hand.drawn ≤ n = above_le c.loop-number.hand.drawn n some.4 in
    record { fits = omega (arith, low, i.2, some.0, c.in-Some.ensures.small, c.posted-own.ensures.1) }

pub loop-number-smaller : goal.loop-number-smaller
loop-number-smaller g c =
    let some = c.in-Some.ensures.some in
    let n = c.in-Some.number in
    let low : above c.loop-number.hand.drawn ≤ n = above_le c.loop-number.hand.drawn n some.4 in
    let high : above c.draw.new.hand.drawn ≡ above (c.loop-number.hand.drawn ++ n ∷ []) = ap above some.3 in
    omega (arith, low, high, above_push c.loop-number.hand.drawn n, some.0)

pub loop-number-preserved : goal.loop-number-preserved
loop-number-preserved g c =
    let some = c.in-Some.ensures.some in
    let i = c.loop-number.invariant in
    let n = c.in-Some.number in
    let low : above c.loop-number.hand.drawn ≤ n = above_le c.loop-number.hand.drawn n some.4 in
    let high : above c.draw.new.hand.drawn ≡ above (c.loop-number.hand.drawn ++ n ∷ []) = ap above some.3 in (
      c.in-Some.ensures.own,
      omega (arith, i.1, ap length some.3, length-append c.loop-number.hand.drawn (n ∷ []), c.posted-own.ensures.0),
      omega (arith, i.2, low, high, above_push c.loop-number.hand.drawn n, c.posted-own.ensures.1),
      longer c.args.hand.drawn c.loop-number.hand.drawn c.draw.new.hand.drawn n i.3 some.3,
    )

pub loop-number-init : goal.loop-number-init
loop-number-init g c = (c.requires.own, omega arith, omega arith, ([], append-nil c.args.hand.drawn))

pub returns-in_default-piece-clause-continues : goal.returns-in_default-piece-clause-continues
returns-in_default-piece-clause-continues g c = longer c.args.hand.drawn c.loop-number.hand.drawn c.draw.new.hand.drawn c.in-Some.number c.loop-number.invariant.3 c.in-Some.ensures.some.3

pub returns-clause-continues : goal.returns-clause-continues
returns-clause-continues g c =
    let more = c.loop-number.invariant.3 in
    (more.0, more.1 ∙ sym c.in_default.ensures.none.1)
