use Rattle.std.proofs.Common.{arith, sym, ◌∙◌, ap}
use Rattle.tile_book.proofs.Draws.{joins}
use Rattle.tile_book.proofs.draw.Draw.taken_in.Goals as goal

pub join_seat-requires : goal.join_seat-requires
join_seat-requires g c =
    let hand = c.hand.invariant in
    let same = ap (λ d. d.draw) c.hand.view_is ∙ c.requires.own ∙ sym c.self.view_is in (
      ap (λ d. d.table) same,
      c.requires.seat.0 ∙ sym (ap (λ d. d.table) c.self.view_is),
      c.requires.seat.1,
      rw c.self.invariant.0 (omega arith),
      joins _ _ _ _ _ hand.1,
    )
