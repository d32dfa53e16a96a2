use Rattle.std.proofs.Common.{◌≡◌, ◌^◌, ◌<◌, true, length, flat_map, sum, rules, arith, ap}
use Rattle.tile_book.specs.Growth.{HasGrown}
use Rattle.tile_book.specs.Shown.{HandView}
use Rattle.tile_book.proofs.Kept.{popped, pushed}
use Rattle.tile_book.proofs.Whole.{flat_push, sum_push, no_fault}
use Rattle.tile_book.proofs.filling.parted.Goals as goal

pub loop-hand-preserved : goal.loop-hand-preserved
loop-hand-preserved g c =
    let i = c.loop-hand.invariant in
    let e = c.in-Some.field-0 in
    let rest = popped (λ e. (e.hand.draw ≡ c.args.draw.now) × HasGrown e) _ _ _ c.in-Some.ensures.items i.4 in
    let grown = rest.1.1 in
    let whole = no_fault e.fault (e.hand.spent ≡ true) c.if-is_some.ensures grown.1 in
    let low : e.returned < 2 ^ 32 = search rules in (
      search rules,
      search rules,
      search rules,
      search rules,
      rest.0,
      pushed (λ (h : HandView). (h.draw ≡ c.args.draw.now) × (h.spent ≡ true)) _ _ _ c.push_reserved.ensures.items i.5 (rest.1.0, whole.0),
      omega (arith, ap sum c.push_reserved-in-Some.ensures.items, sum_push c.loop-hand.shares.items e.share, ap (λ hs. length (flat_map (λ (h : HandView). h.drawn) hs)) c.push_reserved.ensures.items, flat_push (λ (h : HandView). h.drawn) c.loop-hand.hands.items e.hand, i.6, grown.0, whole.1),
      omega (arith, i.7, low, c.push_reserved.ensures.len),
    )
