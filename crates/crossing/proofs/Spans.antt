-- Spans of numbers and boxes of segments that have something in common.
use Rattle.std.proofs.Common.{◌≡◌, true, arith}
use Rattle.std.proofs.Math.IntN.{ℤ, pos, ◌*ℤ◌}
use Rattle.std.specs.Prelude.{◌≤ℤ◌, ◌<ℤ◌}
use Rattle.std.specs.Int.{int_min, int_max}
use Rattle.std.proofs.lemmas.Int.{ints, clamps, by_lt_z}
use Rattle.geom.specs.declared.point.Pt.{Pt}
use Rattle.geom.specs.declared.segment.Seg.{Seg}
use Rattle.geom.specs.Box.{IsInBox, ShareAPoint, greatest_corner, least_corner}
use Rattle.geom.specs.Hot.{CrossIn}
use Rattle.geom.proofs.Integers.{linear, unscale_le}
use Rattle.geom.proofs.Points.{and_both, both_and}
use Rattle.geom.proofs.Meaning.{met_pixels_are_in_bounds}
use Rattle.geom.proofs.Tests.{le_yes, le_told}
use Rattle.geom.proofs.Numbers.{weak, itself, once_from, once_to}
use Rattle.crossing.specs.Boxes.{spans_meet, boxes_meet}

over : (n z a b : ℤ) → pos 0 <ℤ n → (n *ℤ a) ≤ℤ z → z ≤ℤ (n *ℤ b) → a ≤ℤ b
over n z a b p h k = unscale_le a b n (omega (arith, linear)) p

-- z / n is in both spans
spans_common : (a b c d n z : ℤ) → pos 0 <ℤ n → (n *ℤ int_min a b) ≤ℤ z → z ≤ℤ (n *ℤ int_max a b) → (n *ℤ int_min c d) ≤ℤ z → z ≤ℤ (n *ℤ int_max c d) → spans_meet a b c d ≡ true
unfolding spans_meet
spans_common a b c d n z p h k l m = both_and _ _ (le_yes _ _ (over n z _ _ p h m)) (le_yes _ _ (over n z _ _ p l k))

record Common (a b c d : ℤ) : Type 0 where
  at : ℤ
  first_from : int_min a b ≤ℤ at
  first_to : at ≤ℤ int_max a b
  second_from : int_min c d ≤ℤ at
  second_to : at ≤ℤ int_max c d

min_le_max : (a b : ℤ) → int_min a b ≤ℤ int_max a b
min_le_max a b = omega (arith, ints, clamps)

-- the greater one of the two least numbers is in both
common_of : (a b c d : ℤ) → spans_meet a b c d ≡ true → Common a b c d
unfolding spans_meet
common_of a b c d h =
    let l = and_both _ _ h in
    let p = le_told _ _ l.0 in
    let q = le_told _ _ l.1 in
    by_lt_z (int_min a b) (int_min c d)
    (λ k. record { at = int_min c d; first_from = weak _ _ k; first_to = q; second_from = itself _; second_to = min_le_max c d })
    (λ k. record { at = int_min a b; first_from = itself _; first_to = min_le_max a b; second_from = k; second_to = p })

pub boxes_common : (s t : Seg) → ShareAPoint (least_corner s.a s.b) (greatest_corner s.a s.b) (least_corner t.a t.b) (greatest_corner t.a t.b) → boxes_meet s t ≡ true
boxes_common s t (z, h, k) = both_and _ _
    (spans_common s.a.x s.b.x t.a.x t.b.x z.n z.x z.positive h.left h.right k.left k.right)
    (spans_common s.a.y s.b.y t.a.y t.b.y z.n z.y z.positive h.bottom h.top k.bottom k.top)

pub common_point : (s t : Seg) → boxes_meet s t ≡ true → ShareAPoint (least_corner s.a s.b) (greatest_corner s.a s.b) (least_corner t.a t.b) (greatest_corner t.a t.b)
common_point s t h =
    let l = and_both _ _ h in
    let x = common_of s.a.x s.b.x t.a.x t.b.x l.0 in
    let y = common_of s.a.y s.b.y t.a.y t.b.y l.1 in (
      record { x = x.at; y = y.at; n = pos 1; positive = omega (arith, linear) },
      record { left = once_from _ _ x.first_from; right = once_to _ _ x.first_to; bottom = once_from _ _ y.first_from; top = once_to _ _ y.first_to },
      record { left = once_from _ _ x.second_from; right = once_to _ _ x.second_to; bottom = once_from _ _ y.second_from; top = once_to _ _ y.second_to },
    )

in_both : (lo hi lo' hi' c : Pt) → IsInBox lo hi c → IsInBox lo' hi' c → ShareAPoint lo hi lo' hi'
in_both lo hi lo' hi' c h k = (
  record { x = c.x; y = c.y; n = pos 1; positive = omega (arith, linear) },
  record { left = once_from _ _ h.left; right = once_to _ _ h.right; bottom = once_from _ _ h.bottom; top = once_to _ _ h.top },
  record { left = once_from _ _ k.left; right = once_to _ _ k.right; bottom = once_from _ _ k.bottom; top = once_to _ _ k.top },
)

-- a crossing's pixel lies in both boxes
pub crossing_meets : (s t : Seg) (c : Pt) → CrossIn s t c → boxes_meet s t ≡ true
crossing_meets s t c h = boxes_common s t (in_both _ _ _ _ c (met_pixels_are_in_bounds s c (h.z, h.on_first, h.in_pixel)) (met_pixels_are_in_bounds t c (h.z, h.on_second, h.in_pixel)))
