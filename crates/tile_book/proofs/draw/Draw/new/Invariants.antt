use Rattle.std.proofs.Common.{◌≡◌, ◌-◌, [], All, vec_len, vec_capacity, ◌≤◌, false}
use Rattle.tile_book.specs.Drawing.{ticket}
use Rattle.tile_book.proofs.draw.Draw.new.Given as goal

abbrev pub invariant-loop : goal.invariant-loop
invariant-loop g l =
    (l.seat.table_id ≡ l.table.shared.table_id) × (l.seat.me ≡ (ticket l.limit l.hands (l.hands - l.counter) 0 [], []))
    × (vec_len l.made ≡ l.counter)
    × (l.hands ≤ vec_capacity l.made)
    × All (λ h. (h.draw ≡ record { table = l.table.shared.table_id; limit = l.limit; hands = l.hands }) × (h.spent ≡ false) × (h.drawn ≡ [])) l.made.items
