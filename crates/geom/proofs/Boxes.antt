-- Boxes: what their tests decide, and the box of a segment.
use Rattle.std.proofs.Common.{inl, inr, arith}
use Rattle.std.proofs.lemmas.Int.{ints, clamps, by_lt_z}
use Rattle.std.specs.Int.{int_min, int_max}
use lib.IntN.{ℤ, pos, ◌*ℤ◌}
use lib.Signed.{◌<ℤ◌, ◌≤ℤ◌}
use Rattle.geom.specs.declared.point.Pt.{Pt}
use Rattle.geom.specs.declared.rect.Rect.{Rect}
use Rattle.geom.specs.Box.{IsInBox, ShareAPoint, greatest_corner, least_corner}
use Rattle.geom.proofs.Integers.{linear, unscale_le}
use Rattle.geom.proofs.Along.{Between}
use Rattle.geom.proofs.Numbers.{once_from, once_to}

-- two closed intervals have a number in common, the greater of their least ones
pub record Common (a b c d : ℤ) : Type 0 where
  pub at : ℤ
  pub a_from : a ≤ℤ at
  pub b_to : at ≤ℤ b
  pub c_from : c ≤ℤ at
  pub d_to : at ≤ℤ d

common : (a b c d : ℤ) → a ≤ℤ b → c ≤ℤ d → a ≤ℤ d → c ≤ℤ b → Common a b c d
common a b c d p q r s = by_lt_z a c
    (λ h. record { at = c; a_from = omega (arith, linear); b_to = s; c_from = omega (arith, linear); d_to = q })
    (λ h. record { at = a; a_from = omega (arith, linear); b_to = p; c_from = h; d_to = r })

pub share_out : (r s : Rect) → (r.lo.x ≤ℤ s.hi.x) × (s.lo.x ≤ℤ r.hi.x) → (r.lo.y ≤ℤ s.hi.y) × (s.lo.y ≤ℤ r.hi.y) → ShareAPoint r.lo r.hi s.lo s.hi
share_out r s p q =
    let u = common r.lo.x r.hi.x s.lo.x s.hi.x r.wide s.wide p.0 p.1 in
    let v = common r.lo.y r.hi.y s.lo.y s.hi.y r.high s.high q.0 q.1 in (
      record { x = u.at; y = v.at; n = pos 1; positive = omega (arith, linear) },
      record { left = once_from _ _ u.a_from; right = once_to _ _ u.b_to; bottom = once_from _ _ v.a_from; top = once_to _ _ v.b_to },
      record { left = once_from _ _ u.c_from; right = once_to _ _ u.d_to; bottom = once_from _ _ v.c_from; top = once_to _ _ v.d_to },
    )

over : (n z a b : ℤ) → pos 0 <ℤ n → (n *ℤ a) ≤ℤ z → z ≤ℤ (n *ℤ b) → a ≤ℤ b
over n z a b p h k = unscale_le a b n (omega (arith, linear)) p

pub share_in : (r s : Rect) → ShareAPoint r.lo r.hi s.lo s.hi → ((r.lo.x ≤ℤ s.hi.x) × (s.lo.x ≤ℤ r.hi.x)) × ((r.lo.y ≤ℤ s.hi.y) × (s.lo.y ≤ℤ r.hi.y))
share_in r s (z, h, k) = (
  (over z.n z.x r.lo.x s.hi.x z.positive h.left k.right, over z.n z.x s.lo.x r.hi.x z.positive k.left h.right),
  (over z.n z.y r.lo.y s.hi.y z.positive h.bottom k.top, over z.n z.y s.lo.y r.hi.y z.positive k.bottom h.top),
)

-- ---- the least box of two points

min_to : (a b c : ℤ) → Between a b c → int_min a b ≤ℤ c
min_to a b c (inl h) = omega (arith, ints, clamps, h)
min_to a b c (inr h) = omega (arith, ints, clamps, h)

max_from : (a b c : ℤ) → Between a b c → c ≤ℤ int_max a b
max_from a b c (inl h) = omega (arith, ints, clamps, h)
max_from a b c (inr h) = omega (arith, ints, clamps, h)

between_of : (a b c : ℤ) → int_min a b ≤ℤ c → c ≤ℤ int_max a b → Between a b c
between_of a b c h k = by_lt_z b a (λ l. inr (omega (arith, ints, clamps), omega (arith, ints, clamps))) (λ l. inl (omega (arith, ints, clamps), omega (arith, ints, clamps)))

pub box_of_between : (a b c : Pt) → Between a.x b.x c.x → Between a.y b.y c.y → IsInBox (least_corner a b) (greatest_corner a b) c
box_of_between a b c h k = record { left = min_to a.x b.x c.x h; right = max_from a.x b.x c.x h; bottom = min_to a.y b.y c.y k; top = max_from a.y b.y c.y k }

pub between_of_box : (a b c : Pt) → IsInBox (least_corner a b) (greatest_corner a b) c → Between a.x b.x c.x × Between a.y b.y c.y
between_of_box a b c h = (between_of a.x b.x c.x h.left h.right, between_of a.y b.y c.y h.bottom h.top)
