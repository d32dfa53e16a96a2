use Rattle.std.proofs.Common.{◌≡◌, ◌∙◌, ◌<◌, ◌≤◌, ◌+◌, ℕ, ap, sym, subst, arith, rules}
use Rattle.std.specs.Prelude.{Some, slice_index_or, slice_set, vec_capacity}
use Rattle.tile_book.proofs.Emptied.{AreEmptied, emptied_all, full_none, next_held, next_made}
use Rattle.tile_book.proofs.filling.complete.Goals.{in-Some, in-None+in_ok-piece-in-None}
use Rattle.tile_book.proofs.filling.complete.Goals as goal

pub loop-number-preserved : goal.loop-number-preserved
loop-number-preserved g c =
    let i = c.loop-number.invariant in
    let number = g.J.Piece.Numbered.number_of in
    let first = c.args.book.held in
    let held = c.loop-number.held.items in
    let made = c.loop-number.pieces.items in
    let n = c.loop-number.number in
    let low : n < c.args.book.limit = search rules in
    let room : c.args.book.limit ≤ vec_capacity c.push_reserved.new.self = search rules in
    let read : c.take.result ≡ slice_index_or held n c.take.result = cc in
    elim c.match-take.branch [
      | in-Some w ↦
          let next = next_held number c.args.book.limit first held made c.push_reserved.new.self.items n c.loop-number.remade c.take.result c.take.new.self c.match-take.piece i.0 i.3 low read c.take.ensures.after
          c.push_reserved.ensures.items (w.in-Some.is ∙ ap Some (sym w.piece-is)) in
          (next.0, room, omega (arith, w.remade-is, i.2), subst (λ (m : ℕ). AreEmptied first (slice_set held n c.take.new.self) c.push_reserved.new.self.items (n + 1) m) (sym w.remade-is) next.1)
      | in-None+in_ok-piece-in-None w ↦
          let next = next_made number c.args.book.limit first held made c.push_reserved.new.self.items n c.loop-number.remade c.take.result c.take.new.self c.match-take.piece i.0 i.3 low read c.take.ensures.after
          c.push_reserved.ensures.items w.in-None.is (ap number w.piece-is ∙ w.in_ok-piece-in-None.ensures) in
          (next.0, room, omega (arith, w.remade-is, i.2), subst (λ (m : ℕ). AreEmptied first (slice_set held n c.take.new.self) c.push_reserved.new.self.items (n + 1) m) (sym w.remade-is) next.1)
    ]

pub returns-clause-kept : goal.returns-clause-kept
returns-clause-kept g c =
    let whole : c.loop-number.number ≡ c.args.book.limit = search rules in
    (emptied_all c.args.book.held c.loop-number.held.items c.loop-number.pieces.items c.loop-number.number c.loop-number.remade c.loop-number.invariant.3
    (c.into_held-held.ensures.replay.places ∙ sym whole)).0

pub returns-clause-empty : goal.returns-clause-empty
returns-clause-empty g c =
    let whole : c.loop-number.number ≡ c.args.book.limit = search rules in
    (emptied_all c.args.book.held c.loop-number.held.items c.loop-number.pieces.items c.loop-number.number c.loop-number.remade c.loop-number.invariant.3
    (c.into_held-held.ensures.replay.places ∙ sym whole)).1 ∙ whole

pub returns-clause-full : goal.returns-clause-full
returns-clause-full g c = full_none c.args.book.held c.args.book.limit c.loop-number.remade c.into_held-held.ensures.replay.places (returns-clause-empty g c)
