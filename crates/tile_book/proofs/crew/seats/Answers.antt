use Rattle.std.proofs.Common.{rules, [], ◌≡◌}
use Rattle.tile_book.proofs.Kept.{popped, pushed}
use Rattle.tile_book.proofs.crew.seats.Goals as goal

pub loop-hand-preserved : goal.loop-hand-preserved
loop-hand-preserved g c =
    let i = c.loop-hand.invariant in
    let hands = popped (λ h. (h.draw ≡ c.args.draw.now) × (h.drawn ≡ [])) _ _ _ c.in-Some.ensures.items i.3 in
    let shares = popped (λ s. s ≡ 0) _ _ _ c.in-Some-pop.ensures.items i.4 in
    (search rules, search rules, search rules, hands.0, shares.0, pushed (λ s. (s.hand.draw ≡ c.args.draw.now) × (s.hand.drawn ≡ []) × (s.share ≡ 0)) _ _ _ c.push_reserved.ensures.items i.5 (hands.1.0, hands.1.1, shares.1))
