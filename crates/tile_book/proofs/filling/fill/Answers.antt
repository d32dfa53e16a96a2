use Rattle.std.proofs.Common.{◌≡◌, ◌<◌, ℕ, IfOk, IsSome, None, arith, length, rules, slice_index_or, subst}
use Rattle.tile_book.proofs.filling.fill.Goals as goal

pub seats-requires-clause-own : goal.seats-requires-clause-own
seats-requires-clause-own g c k d low =
    let fresh = c.in_ok-draw.ensures.hands.1 k d low in
    (fresh.0, fresh.2)

pub settle-requires-clause-own : goal.settle-requires-clause-own
settle-requires-clause-own g c k d low =
    let same : length c.in_ok-ended.ended.items ≡ length c.in_ok-seats.seats.items = search rules in
    (c.in_ok-ended.ensures.each k d (omega (arith, low, same))).1.call.met

pub returns-clause-full : goal.returns-clause-full
returns-clause-full g c = subst (λ (n : ℕ). IfOk c.settle.result (λ f. f.returned ≡ 0 → (k : ℕ) → k < n → IsSome (slice_index_or f.book.held k None))) c.in_ok-desk.ensures.0 c.settle.ensures.full
