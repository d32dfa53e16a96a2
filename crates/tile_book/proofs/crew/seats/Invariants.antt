use Rattle.std.proofs.Common.{◌≡◌, ◌+◌, ◌≤◌, [], All, vec_len, vec_capacity}
use Rattle.tile_book.proofs.crew.seats.Given as goal

abbrev pub invariant-loop-hand : goal.invariant-loop-hand
invariant-loop-hand g l =
    (vec_len l.shares ≡ vec_len l.hands)
    × (vec_len l.seats + vec_len l.hands ≡ vec_len l.fn.hands)
    × (vec_len l.fn.hands ≤ vec_capacity l.seats)
    × All (λ h. (h.draw ≡ l.draw) × (h.drawn ≡ [])) l.hands.items
    × All (λ s. s ≡ 0) l.shares.items
    × All (λ s. (s.hand.draw ≡ l.draw) × (s.hand.drawn ≡ []) × (s.share ≡ 0)) l.seats.items

abbrev pub decreases-loop-hand : goal.decreases-loop-hand
decreases-loop-hand g l = vec_len l.hands
