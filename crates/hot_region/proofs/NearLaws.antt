-- A line that meets a pixel of a rectangle passes the closed square round its pixels.
use Rattle.std.proofs.Common.{◌≡◌, inl, inr, arith}
use Rattle.std.proofs.Math.IntN.{ℤ, pos, ◌+ℤ◌, ◌-ℤ◌, ◌*ℤ◌, neg_ℤ}
use Rattle.std.specs.Prelude.{◌≤ℤ◌}
use borrow.Author.Differences.{abs_is}
use Rattle.geom.specs.declared.point.Pt.{Pt}
use Rattle.geom.specs.declared.rect.Rect.{Rect}
use Rattle.geom.specs.declared.edge.Edge.{Edge}
use Rattle.geom.specs.Determinant.{determinant}
use Rattle.geom.specs.Box.{IsInBox, LiesInBox, ShareAPoint, least_corner, greatest_corner}
use Rattle.geom.proofs.Boxes.{box_of_between}
use Rattle.geom.specs.Route.{Meets}
use Rattle.geom.proofs.Integers.{linear, expand, mul_nonneg}
use Rattle.geom.proofs.Along.{PassesCorners, meets_passes, meets_box, offset, size}
use Rattle.geom.proofs.Pixels.{piece, piece_proper, meets_in}
use Rattle.geom.proofs.Numbers.{once_from, once_to}
use Rattle.hot_region.specs.Rects.{IsIn}
use Rattle.hot_region.specs.Halving.{IsMetOn, IsNear}
use Rattle.hot_region.proofs.LineLaws.{segment_of, segment_line}

pub ruleset sized = (linear, abs_is)

corners_within : (d e i j : ℤ) → PassesCorners d e i j → (neg_ℤ (size d +ℤ size e) ≤ℤ offset d e i j) × (offset d e i j ≤ℤ (size d +ℤ size e))
corners_within d e i j (inl (p, q)) = (omega (arith, linear), omega (arith, linear))
corners_within d e i j (inr (inl (k, a, b))) = (omega (arith, sized), omega (arith, sized))
corners_within d e i j (inr (inr (k, a, b))) = (omega (arith, sized), omega (arith, sized))

-- a product of two numbers within bounds
pub times_within : (d v s h : ℤ) → neg_ℤ s ≤ℤ d → d ≤ℤ s → neg_ℤ h ≤ℤ v → v ≤ℤ h → (neg_ℤ (s *ℤ h) ≤ℤ (d *ℤ v)) × ((d *ℤ v) ≤ℤ (s *ℤ h))
times_within d v s h a b k l =
    let p = simp expand at (mul_nonneg (s -ℤ d) (h +ℤ v) (omega (arith, linear)) (omega (arith, linear))) in
    let q = simp expand at (mul_nonneg (s +ℤ d) (h -ℤ v) (omega (arith, linear)) (omega (arith, linear))) in
    let r = simp expand at (mul_nonneg (s -ℤ d) (h -ℤ v) (omega (arith, linear)) (omega (arith, linear))) in
    let t = simp expand at (mul_nonneg (s +ℤ d) (h +ℤ v) (omega (arith, linear)) (omega (arith, linear))) in
    (omega (arith, linear), omega (arith, linear))

-- the centre is (u, v) / 2 from the pixel
near_by : (d e i j u v w h s t : ℤ) → (neg_ℤ (s +ℤ t) ≤ℤ offset d e i j) × (offset d e i j ≤ℤ (s +ℤ t)) → (neg_ℤ (s *ℤ h) ≤ℤ (d *ℤ v)) × ((d *ℤ v) ≤ℤ (s *ℤ h)) → (neg_ℤ (t *ℤ w) ≤ℤ (e *ℤ u)) × ((e *ℤ u) ≤ℤ (t *ℤ w))
    → (neg_ℤ (determinant s t (neg_ℤ w -ℤ pos 1) (h +ℤ pos 1)) ≤ℤ determinant d e ((i +ℤ i) -ℤ u) ((j +ℤ j) -ℤ v)) × (determinant d e ((i +ℤ i) -ℤ u) ((j +ℤ j) -ℤ v) ≤ℤ determinant s t (neg_ℤ w -ℤ pos 1) (h +ℤ pos 1))
near_by d e i j u v w h s t (a, b) (k, l) (m, n) =
    let a' = simp expand at a in
    let b' = simp expand at b in
    let k' = simp expand at k in
    let l' = simp expand at l in
    let m' = simp expand at m in
    let n' = simp expand at n in
    (simp expand (omega (arith, linear)), simp expand (omega (arith, linear)))

pub size_from : (d : ℤ) → neg_ℤ (size d) ≤ℤ d
size_from d = omega (arith, sized)

pub size_to : (d : ℤ) → d ≤ℤ size d
size_to d = omega (arith, sized)

-- the pixel c of the box from lo to hi, seen from p
near_of : (d e lx ly hx hy px py cx cy : ℤ) → lx ≤ℤ cx → cx ≤ℤ hx → ly ≤ℤ cy → cy ≤ℤ hy → PassesCorners d e (cx -ℤ px) (cy -ℤ py)
    → (neg_ℤ (determinant (size d) (size e) ((lx -ℤ hx) -ℤ pos 1) ((hy -ℤ ly) +ℤ pos 1)) ≤ℤ determinant d e ((lx +ℤ hx) -ℤ (px +ℤ px)) ((ly +ℤ hy) -ℤ (py +ℤ py)))
    × (determinant d e ((lx +ℤ hx) -ℤ (px +ℤ px)) ((ly +ℤ hy) -ℤ (py +ℤ py)) ≤ℤ determinant (size d) (size e) ((lx -ℤ hx) -ℤ pos 1) ((hy -ℤ ly) +ℤ pos 1))
near_of d e lx ly hx hy px py cx cy a b k l h =
    let i = cx -ℤ px in
    let j = cy -ℤ py in
    let u = (cx +ℤ cx) -ℤ (lx +ℤ hx) in
    let v = (cy +ℤ cy) -ℤ (ly +ℤ hy) in
    let w = hx -ℤ lx in
    let t = hy -ℤ ly in
    let x : ((cx -ℤ px) +ℤ (cx -ℤ px)) -ℤ ((cx +ℤ cx) -ℤ (lx +ℤ hx)) ≡ (lx +ℤ hx) -ℤ (px +ℤ px) = back cx px lx hx in
    let y : ((cy -ℤ py) +ℤ (cy -ℤ py)) -ℤ ((cy +ℤ cy) -ℤ (ly +ℤ hy)) ≡ (ly +ℤ hy) -ℤ (py +ℤ py) = back cy py ly hy in
    let z : neg_ℤ (hx -ℤ lx) -ℤ pos 1 ≡ (lx -ℤ hx) -ℤ pos 1 = turned lx hx in
    let r = near_by d e i j u v w t (size d) (size e) (corners_within d e i j h) (times_within d v (size d) t (size_from d) (size_to d) (low cy ly hy k l) (high cy ly hy k l)) (times_within e u (size e) w (size_from e) (size_to e) (low cx lx hx a b) (high cx lx hx a b)) in
    rw (x, y, z) at r
  where
    back : (c p l h : ℤ) → ((c -ℤ p) +ℤ (c -ℤ p)) -ℤ ((c +ℤ c) -ℤ (l +ℤ h)) ≡ (l +ℤ h) -ℤ (p +ℤ p)
    back c p l h = omega (arith, linear)

    turned : (l h : ℤ) → neg_ℤ (h -ℤ l) -ℤ pos 1 ≡ (l -ℤ h) -ℤ pos 1
    turned l h = omega (arith, linear)

    low : (c l h : ℤ) → l ≤ℤ c → c ≤ℤ h → neg_ℤ (h -ℤ l) ≤ℤ ((c +ℤ c) -ℤ (l +ℤ h))
    low c l h a b = omega (arith, linear)

    high : (c l h : ℤ) → l ≤ℤ c → c ≤ℤ h → ((c +ℤ c) -ℤ (l +ℤ h)) ≤ℤ (h -ℤ l)
    high c l h a b = omega (arith, linear)

met_segment : (e : Edge) (c : Pt) → IsMetOn e c → Meets (segment_of e) c
met_segment e c m = m.meets (segment_of e) (segment_line e)

corners : (e : Edge) (c : Pt) → IsMetOn e c → PassesCorners (e.q.x -ℤ e.p.x) (e.q.y -ℤ e.p.y) (c.x -ℤ e.p.x) (c.y -ℤ e.p.y)
unfolding segment_of
corners e c m = (meets_passes (piece (segment_of e)) c (piece_proper (segment_of e)) (meets_in (segment_of e) c (met_segment e c m))).corners

pub met_near : (rect : Rect) (e : Edge) (c : Pt) → IsIn rect c → IsMetOn e c → IsNear rect e
met_near rect e c h m =
    let r = near_of (e.q.x -ℤ e.p.x) (e.q.y -ℤ e.p.y) rect.lo.x rect.lo.y rect.hi.x rect.hi.y e.p.x e.p.y c.x c.y h.left h.right h.bottom h.top (corners e c m) in
    record { from = r.0; to = r.1 }

-- ---- and its box shares a point with the rectangle
lies : (lo hi c : Pt) → IsInBox lo hi c → LiesInBox lo hi (record { x = c.x; y = c.y; n = pos 1; positive = omega (arith, linear) })
lies lo hi c h = record { left = once_from lo.x c.x h.left; right = once_to hi.x c.x h.right; bottom = once_from lo.y c.y h.bottom; top = once_to hi.y c.y h.top }

pub in_bounds : (e : Edge) (c : Pt) → IsMetOn e c → IsInBox (least_corner e.p e.q) (greatest_corner e.p e.q) c
unfolding segment_of
in_bounds e c m = let b = meets_box (piece (segment_of e)) c (meets_in (segment_of e) c (met_segment e c m)) in box_of_between e.p e.q c b.0 b.1

pub met_shares : (rect : Rect) (e : Edge) (c : Pt) → IsIn rect c → IsMetOn e c → ShareAPoint (least_corner e.p e.q) (greatest_corner e.p e.q) rect.lo rect.hi
met_shares rect e c h m = (record { x = c.x; y = c.y; n = pos 1; positive = omega (arith, linear) }, lies (least_corner e.p e.q) (greatest_corner e.p e.q) c (in_bounds e c m), lies rect.lo rect.hi c h)
