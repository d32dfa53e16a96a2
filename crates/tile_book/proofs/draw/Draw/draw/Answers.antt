use Rattle.std.proofs.Common.{arith, sym, ◌∙◌, ap, refl}
use mathlib.Core.Option.{none}
use Rattle.atomic_table.specs.Table.{step}
use Rattle.tile_book.proofs.Draws.{draws}
use Rattle.tile_book.proofs.draw.Draw.draw.Goals as goal

pub fetch_add-found-requires : goal.fetch_add-found-requires
fetch_add-found-requires g c =
    let hand = c.hand.invariant in
    let same = ap (λ d. d.draw) c.hand.view_is ∙ c.requires.own ∙ sym c.self.view_is in (
      ap (λ d. d.table) same,
      rw c.self.invariant.0 (omega arith),
      draws _ _ _ _ _ (step c.self.inside.table.shared.table_id.slots 0 1 0 none) hand.1 (hand.2 ∙ rw c.if-hand.false refl),
    )
