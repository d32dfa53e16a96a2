use Rattle.std.proofs.Common.{◌≡◌, arith}
use Rattle.std.proofs.Math.IntN.{pos, neg_ℤ}
use Rattle.std.specs.Int.{int_min, int_max}
use Rattle.std.proofs.lemmas.Int.{ints, clamps}
use Rattle.geom.specs.Limit.{coordinate_limit}
use Rattle.hot_region.proofs.HalvingLaws.{part_by, clip_empty}
use Rattle.hot_region.proofs.halving.within_limit.Goals as goal
use Rattle.hot_region.proofs.halving.within_limit.Goals.{else-left-right-via-then-left-right+else-bottom-top, else-left-right-via-else-left-right}

pub returns-then-bottom-top : goal.returns-then-bottom-top
returns-then-bottom-top c =
    let r = c.args.rect.now in
    let l : c.max-left.result ≡ int_max r.lo.x (neg_ℤ (pos coordinate_limit)) = omega (arith, ints, clamps) in
    let b : c.max-bottom.result ≡ int_max r.lo.y (neg_ℤ (pos coordinate_limit)) = omega (arith, ints, clamps) in
    let h : c.min-right.result ≡ int_min r.hi.x (pos coordinate_limit) = omega (arith, ints, clamps) in
    let t : c.min-top.result ≡ int_min r.hi.y (pos coordinate_limit) = omega (arith, ints, clamps) in
    part_by r _ c.max-left.result c.max-bottom.result c.min-right.result c.min-top.result (omega (arith, ints)) (omega (arith, ints)) (omega (arith, ints)) (omega (arith, ints)) l b h t (omega (arith, ints)) (omega (arith, ints))

pub returns-else-left-right : goal.returns-else-left-right
returns-else-left-right c =
    let r = c.args.rect.now in
    let l : c.max-left.result ≡ int_max r.lo.x (neg_ℤ (pos coordinate_limit)) = omega (arith, ints, clamps) in
    let b : c.max-bottom.result ≡ int_max r.lo.y (neg_ℤ (pos coordinate_limit)) = omega (arith, ints, clamps) in
    let h : c.min-right.result ≡ int_min r.hi.x (pos coordinate_limit) = omega (arith, ints, clamps) in
    let t : c.min-top.result ≡ int_min r.hi.y (pos coordinate_limit) = omega (arith, ints, clamps) in
    elim c.else-left-right.branch [
      | else-left-right-via-then-left-right+else-bottom-top w ↦ λ p i k. clip_empty r.lo.y r.hi.y c.max-bottom.result c.min-top.result p.y b t (omega (arith, ints, w.if-bottom-top.false)) i.y_in k.bottom k.top
      | else-left-right-via-else-left-right w ↦ λ p i k. clip_empty r.lo.x r.hi.x c.max-left.result c.min-right.result p.x l h (omega (arith, ints, w.if-left-right.false)) i.x_in k.left k.right
    ]
