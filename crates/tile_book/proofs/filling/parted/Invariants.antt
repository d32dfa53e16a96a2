use Rattle.std.proofs.Common.{◌≡◌, ◌+◌, ◌*◌, ◌^◌, ◌≤◌, true, All, length, flat_map, sum, vec_len, vec_capacity}
use Rattle.tile_book.specs.Growth.{HasGrown}
use Rattle.tile_book.proofs.filling.parted.Given as goal

abbrev pub invariant-loop-hand : goal.invariant-loop-hand
invariant-loop-hand g l =
    (vec_len l.hands + vec_len l.ended ≡ vec_len l.fn.ended)
    × (vec_len l.shares + vec_len l.ended ≡ vec_len l.fn.ended)
    × (vec_len l.fn.ended ≤ vec_capacity l.hands)
    × (vec_len l.fn.ended ≤ vec_capacity l.shares)
    × All (λ e. (e.hand.draw ≡ l.draw) × HasGrown e) l.ended.items
    × All (λ h. (h.draw ≡ l.draw) × (h.spent ≡ true)) l.hands.items
    × (sum l.shares.items + l.all_returned ≡ length (flat_map (λ h. h.drawn) l.hands.items))
    × (l.all_returned ≤ vec_len l.hands * 2 ^ 32)

abbrev pub decreases-loop-hand : goal.decreases-loop-hand
decreases-loop-hand g l = vec_len l.ended
