-- What lies behind walls, and which lines may meet a pixel there.
use Rattle.std.proofs.Common.{◌≡◌, ◌⊎◌, inl, inr, ℕ, ◌+◌, ◌<◌, List, [], ◌∷◌, ◌++◌, refl, sym, ◌∙◌, ap, arith, subst, length, get_or, take, ◌↔◌, ⊎_elim}
use Rattle.std.proofs.Math.IntN.{ℤ, pos, ◌+ℤ◌, ◌-ℤ◌, ◌*ℤ◌, neg_ℤ}
use Rattle.std.specs.Prelude.{◌<ℤ◌, ◌≤ℤ◌, Contains}
use Rattle.std.proofs.lemmas.Int.{ints, by_lt_z}
use Rattle.std.proofs.lemmas.List.Elements.{Contains-push, Contains-push_cases}
use Rattle.geom.specs.declared.point.Pt.{Pt}
use Rattle.geom.specs.declared.rect.Rect.{Rect}
use Rattle.geom.specs.declared.edge.Edge.{Edge}
use Rattle.geom.specs.Determinant.{determinant}
use Rattle.geom.proofs.Along.{size}
use Rattle.geom.proofs.Identity.{var, num, ◌⊕◌, ◌⊖◌, ◌⊗◌, ring}
use Rattle.geom.proofs.Integers.{linear, cancel_pos, mul_pos, neg_mul, scale_le}
use Rattle.geom.proofs.Numbers.{weak}
use Rattle.geom.proofs.Pixels.{in_pixel}
use Rattle.hot_region.specs.declared.wall.Wall.{Wall}
use Rattle.hot_region.specs.declared.lines.Line.{Line}
use Rattle.hot_region.specs.Halving.{IsMetOn, HasHotInside, AreHalves, AreParts, AreReaching}
use Rattle.hot_region.specs.Rects.{IsIn}
use Rattle.hot_region.specs.Walls.{AreKept, ArePartition, IsBehind, IsBehindAll, IsInside}
use Rattle.hot_region.proofs.BundleLaws.{between}
use Rattle.hot_region.proofs.LineLaws.{segment_of, segment_line}
use Rattle.hot_region.proofs.ListLaws.{in_push, in_take_more, none_in}
use Rattle.hot_region.proofs.NearLaws.{size_from, size_to, times_within}

-- ---- how far the points of a pixel lie to the left
-- z / n is in the pixel (x, y): twice n times its offset is no less than that of the centre, but for n times the span
spread : (d e x y zx zy n : ℤ) → (n *ℤ ((pos 2 *ℤ x) -ℤ pos 1)) ≤ℤ (pos 2 *ℤ zx) → (pos 2 *ℤ zx) ≤ℤ (n *ℤ ((pos 2 *ℤ x) +ℤ pos 1)) → (n *ℤ ((pos 2 *ℤ y) -ℤ pos 1)) ≤ℤ (pos 2 *ℤ zy) → (pos 2 *ℤ zy) ≤ℤ (n *ℤ ((pos 2 *ℤ y) +ℤ pos 1))
    → (n *ℤ ((pos 2 *ℤ determinant d e x y) -ℤ (size d +ℤ size e))) ≤ℤ (pos 2 *ℤ determinant d e zx zy)
spread d e x y zx zy n a b k l =
    let v = (pos 2 *ℤ zy) -ℤ (n *ℤ (pos 2 *ℤ y)) in
    let u = (pos 2 *ℤ zx) -ℤ (n *ℤ (pos 2 *ℤ x)) in
    let p = times_within d v (size d) n (size_from d) (size_to d) (low n y zy k) (high n y zy l) in
    let q = times_within e u (size e) n (size_from e) (size_to e) (low n x zx a) (high n x zx b) in
    joined _ _ _ _ _ _ (parts d e x y zx zy n (size d) (size e)) p.0 q.1
  where
    low : (n x z : ℤ) → (n *ℤ ((pos 2 *ℤ x) -ℤ pos 1)) ≤ℤ (pos 2 *ℤ z) → neg_ℤ n ≤ℤ ((pos 2 *ℤ z) -ℤ (n *ℤ (pos 2 *ℤ x)))
    low n x z h = let k = ring (n ∷ x ∷ []) (var 0 ⊗ ((num (pos 2) ⊗ var 1) ⊖ num (pos 1))) ((var 0 ⊗ (num (pos 2) ⊗ var 1)) ⊖ var 0) refl in below _ _ _ _ k h
      where
        below : (a b n z : ℤ) → a ≡ b -ℤ n → a ≤ℤ z → neg_ℤ n ≤ℤ (z -ℤ b)
        below a b n z e h = omega (arith, linear)

    high : (n x z : ℤ) → (pos 2 *ℤ z) ≤ℤ (n *ℤ ((pos 2 *ℤ x) +ℤ pos 1)) → ((pos 2 *ℤ z) -ℤ (n *ℤ (pos 2 *ℤ x))) ≤ℤ n
    high n x z h = let k = ring (n ∷ x ∷ []) (var 0 ⊗ ((num (pos 2) ⊗ var 1) ⊕ num (pos 1))) ((var 0 ⊗ (num (pos 2) ⊗ var 1)) ⊕ var 0) refl in above _ _ _ _ k h
      where
        above : (a b n z : ℤ) → a ≡ b +ℤ n → z ≤ℤ a → (z -ℤ b) ≤ℤ n
        above a b n z e h = omega (arith, linear)

    parts : (d e x y zx zy n s t : ℤ) → (pos 2 *ℤ determinant d e zx zy) -ℤ (n *ℤ ((pos 2 *ℤ determinant d e x y) -ℤ (s +ℤ t)))
        ≡ ((d *ℤ ((pos 2 *ℤ zy) -ℤ (n *ℤ (pos 2 *ℤ y)))) -ℤ (e *ℤ ((pos 2 *ℤ zx) -ℤ (n *ℤ (pos 2 *ℤ x))))) +ℤ ((s *ℤ n) +ℤ (t *ℤ n))
    parts d e x y zx zy n s t = ring (d ∷ e ∷ x ∷ y ∷ zx ∷ zy ∷ n ∷ s ∷ t ∷ [])
        ((num (pos 2) ⊗ ((var 0 ⊗ var 5) ⊖ (var 1 ⊗ var 4))) ⊖ (var 6 ⊗ ((num (pos 2) ⊗ ((var 0 ⊗ var 3) ⊖ (var 1 ⊗ var 2))) ⊖ (var 7 ⊕ var 8))))
        (((var 0 ⊗ ((num (pos 2) ⊗ var 5) ⊖ (var 6 ⊗ (num (pos 2) ⊗ var 3)))) ⊖ (var 1 ⊗ ((num (pos 2) ⊗ var 4) ⊖ (var 6 ⊗ (num (pos 2) ⊗ var 2))))) ⊕ ((var 7 ⊗ var 6) ⊕ (var 8 ⊗ var 6))) refl

    joined : (a b p q s t : ℤ) → a -ℤ b ≡ (p -ℤ q) +ℤ (s +ℤ t) → neg_ℤ s ≤ℤ p → q ≤ℤ t → b ≤ℤ a
    joined a b p q s t e h k = omega (arith, linear)

-- ---- how far the points of a line lie to the left
-- the offset of z on the line from p to q, where m / k is how far along it z lies
along : (d e px py qx qy zx zy n m k : ℤ) → k *ℤ zx ≡ n *ℤ ((k *ℤ px) +ℤ (m *ℤ (qx -ℤ px))) → k *ℤ zy ≡ n *ℤ ((k *ℤ py) +ℤ (m *ℤ (qy -ℤ py)))
    → k *ℤ determinant d e zx zy ≡ n *ℤ ((k *ℤ determinant d e px py) +ℤ (m *ℤ (determinant d e qx qy -ℤ determinant d e px py)))
along d e px py qx qy zx zy n m k f g =
    ring (d ∷ e ∷ zx ∷ zy ∷ k ∷ []) (var 4 ⊗ ((var 0 ⊗ var 3) ⊖ (var 1 ⊗ var 2))) ((var 0 ⊗ (var 4 ⊗ var 3)) ⊖ (var 1 ⊗ (var 4 ⊗ var 2))) refl
    ∙ ap (λ w. (d *ℤ (k *ℤ zy)) -ℤ (e *ℤ w)) f
    ∙ ap (λ w. (d *ℤ w) -ℤ (e *ℤ (n *ℤ ((k *ℤ px) +ℤ (m *ℤ (qx -ℤ px)))))) g
    ∙ ring (d ∷ e ∷ px ∷ py ∷ qx ∷ qy ∷ n ∷ m ∷ k ∷ [])
    ((var 0 ⊗ (var 6 ⊗ ((var 8 ⊗ var 3) ⊕ (var 7 ⊗ (var 5 ⊖ var 3))))) ⊖ (var 1 ⊗ (var 6 ⊗ ((var 8 ⊗ var 2) ⊕ (var 7 ⊗ (var 4 ⊖ var 2))))))
    (var 6 ⊗ ((var 8 ⊗ ((var 0 ⊗ var 3) ⊖ (var 1 ⊗ var 2))) ⊕ (var 7 ⊗ (((var 0 ⊗ var 5) ⊖ (var 1 ⊗ var 4)) ⊖ ((var 0 ⊗ var 3) ⊖ (var 1 ⊗ var 2)))))) refl

-- where both ends fall short of a number so does each point between them
short : (a b z n m k t : ℤ) → pos 0 <ℤ n → pos 0 <ℤ k → pos 0 ≤ℤ m → m ≤ℤ k → k *ℤ z ≡ n *ℤ ((k *ℤ a) +ℤ (m *ℤ (b -ℤ a))) → (pos 2 *ℤ a) <ℤ t → (pos 2 *ℤ b) <ℤ t → (pos 2 *ℤ z) <ℤ (n *ℤ t)
short a b z n m k t np kp from to is below_a below_b =
    let h : pos 0 <ℤ ((k *ℤ (t -ℤ (pos 2 *ℤ a))) +ℤ (m *ℤ ((pos 2 *ℤ a) -ℤ (pos 2 *ℤ b)))) =
    between (t -ℤ (pos 2 *ℤ a)) ((pos 2 *ℤ a) -ℤ (pos 2 *ℤ b)) (pos 0) (pos 1) m k kp (least k m from) (most k m to) (first t (pos 2 *ℤ a) ((pos 2 *ℤ a) -ℤ (pos 2 *ℤ b)) below_a) (second t (pos 2 *ℤ a) (pos 2 *ℤ b) below_b) in
    gap _ _ (cancel_pos k _ kp (subst (λ w. pos 0 <ℤ w) (sym (whole a b z n m k t is)) (mul_pos n _ np h)))
  where
    least : (k m : ℤ) → pos 0 ≤ℤ m → (k *ℤ pos 0) ≤ℤ m
    least k m h = omega (arith, ints)

    most : (k m : ℤ) → m ≤ℤ k → m ≤ℤ (k *ℤ pos 1)
    most k m h = omega (arith, ints)

    first : (t a w : ℤ) → a <ℤ t → pos 0 <ℤ ((t -ℤ a) +ℤ (pos 0 *ℤ w))
    first t a w h = omega (arith, ints)

    second : (t a b : ℤ) → b <ℤ t → pos 0 <ℤ ((t -ℤ a) +ℤ (pos 1 *ℤ (a -ℤ b)))
    second t a b h = omega (arith, ints)

    whole : (a b z n m k t : ℤ) → k *ℤ z ≡ n *ℤ ((k *ℤ a) +ℤ (m *ℤ (b -ℤ a))) → k *ℤ ((n *ℤ t) -ℤ (pos 2 *ℤ z)) ≡ n *ℤ ((k *ℤ (t -ℤ (pos 2 *ℤ a))) +ℤ (m *ℤ ((pos 2 *ℤ a) -ℤ (pos 2 *ℤ b))))
    whole a b z n m k t e =
        ring (z ∷ n ∷ k ∷ t ∷ []) (var 2 ⊗ ((var 1 ⊗ var 3) ⊖ (num (pos 2) ⊗ var 0))) ((var 2 ⊗ (var 1 ⊗ var 3)) ⊖ (num (pos 2) ⊗ (var 2 ⊗ var 0))) refl
        ∙ ap (λ w. (k *ℤ (n *ℤ t)) -ℤ (pos 2 *ℤ w)) e
        ∙ ring (a ∷ b ∷ n ∷ m ∷ k ∷ t ∷ []) ((var 4 ⊗ (var 2 ⊗ var 5)) ⊖ (num (pos 2) ⊗ (var 2 ⊗ ((var 4 ⊗ var 0) ⊕ (var 3 ⊗ (var 1 ⊖ var 0))))))
        (var 2 ⊗ ((var 4 ⊗ (var 5 ⊖ (num (pos 2) ⊗ var 0))) ⊕ (var 3 ⊗ ((num (pos 2) ⊗ var 0) ⊖ (num (pos 2) ⊗ var 1))))) refl

    gap : (x y : ℤ) → pos 0 <ℤ (y -ℤ x) → x <ℤ y
    gap x y h = omega (arith, linear)

-- a line with both ends too far to the right meets no pixel behind the wall
pub out_of_span : (d f b : ℤ) (e : Edge) (c : Pt) → b ≤ℤ determinant d f c.x c.y → IsMetOn e c
    → (pos 2 *ℤ determinant d f e.p.x e.p.y) <ℤ ((pos 2 *ℤ b) -ℤ (size d +ℤ size f))
    → (pos 2 *ℤ determinant d f e.q.x e.q.y) <ℤ ((pos 2 *ℤ b) -ℤ (size d +ℤ size f)) → ⊥
unfolding segment_of
out_of_span d f b e c behind met p_short q_short =
    let (z, (m, k, at), is) = met.meets (segment_of e) (segment_line e) in
    let here = in_pixel z c is in
    let low = spread d f c.x c.y z.x z.y z.n here.column.from (weak _ _ here.column.below) here.row.from (weak _ _ here.row.below) in
    let high = short (determinant d f e.p.x e.p.y) (determinant d f e.q.x e.q.y) (determinant d f z.x z.y) z.n m k _ z.positive at.ratio.positive at.ratio.from at.ratio.to (along d f e.p.x e.p.y e.q.x e.q.y z.x z.y z.n m k at.x_is at.y_is) p_short q_short in
    let enough = scale_le ((pos 2 *ℤ b) -ℤ (size d +ℤ size f)) ((pos 2 *ℤ determinant d f c.x c.y) -ℤ (size d +ℤ size f)) z.n (twice _ _ (size d +ℤ size f) behind) (weak _ _ z.positive) in
    never _ _ _ enough low high
  where
    twice : (b x s : ℤ) → b ≤ℤ x → ((pos 2 *ℤ b) -ℤ s) ≤ℤ ((pos 2 *ℤ x) -ℤ s)
    twice b x s h = omega (arith, ints)

    never : (a b c : ℤ) → a ≤ℤ b → b ≤ℤ c → c <ℤ a → ⊥
    never a b c h k l = omega (arith, linear)

pub out_of_reach : (w : Wall) (e : Edge) (c : Pt) → IsBehind w c → IsMetOn e c
    → (pos 2 *ℤ determinant w.run.dx w.run.dy e.p.x e.p.y) <ℤ ((pos 2 *ℤ w.bound) -ℤ (size w.run.dx +ℤ size w.run.dy))
    → (pos 2 *ℤ determinant w.run.dx w.run.dy e.q.x e.q.y) <ℤ ((pos 2 *ℤ w.bound) -ℤ (size w.run.dx +ℤ size w.run.dy)) → ⊥
out_of_reach w e c behind met p_short q_short = out_of_span w.run.dx w.run.dy w.bound e c behind.from met p_short q_short

-- ends that are far enough to the left
pub reaches_end : (w : Wall) (e : Edge) (c : Pt) → IsBehind w c → IsMetOn e c
    → (pos 2 *ℤ determinant w.run.dx w.run.dy e.p.x e.p.y) <ℤ ((pos 2 *ℤ w.bound) -ℤ (size w.run.dx +ℤ size w.run.dy))
    → ((pos 2 *ℤ w.bound) -ℤ (size w.run.dx +ℤ size w.run.dy)) ≤ℤ (pos 2 *ℤ determinant w.run.dx w.run.dy e.q.x e.q.y)
reaches_end w e c behind met p_short = by_lt_z (pos 2 *ℤ determinant w.run.dx w.run.dy e.q.x e.q.y) ((pos 2 *ℤ w.bound) -ℤ (size w.run.dx +ℤ size w.run.dy)) (λ l. absurd (out_of_reach w e c behind met p_short l)) (λ l. l)

-- ---- rectangles
-- a factor below 0 turns an inequality
turned : (e x u : ℤ) → (neg_ℤ e *ℤ x) ≤ℤ (neg_ℤ e *ℤ u) → (e *ℤ u) ≤ℤ (e *ℤ x)
turned e x u h = let a = neg_mul e x in let b = neg_mul e u in omega (arith, linear)

-- the offset of a pixel is no greater than where both its products are greatest
pub farthest : (d e x y u v : ℤ) → (d *ℤ y) ≤ℤ (d *ℤ v) → ((pos 0 -ℤ e) *ℤ x) ≤ℤ ((pos 0 -ℤ e) *ℤ u) → determinant d e x y ≤ℤ determinant d e u v
farthest d e x y u v h k = let a = minus_mul e x in let b = minus_mul e u in omega (arith, linear)
  where
    minus_mul : (e x : ℤ) → (pos 0 -ℤ e) *ℤ x ≡ pos 0 -ℤ (e *ℤ x)
    minus_mul e x = ring (e ∷ x ∷ []) ((num (pos 0) ⊖ var 0) ⊗ var 1) (num (pos 0) ⊖ (var 0 ⊗ var 1)) refl

pub greatest_low : (f l x : ℤ) → f <ℤ pos 0 → l ≤ℤ x → (f *ℤ x) ≤ℤ (f *ℤ l)
greatest_low f l x h k = turned f l x (scale_le l x (neg_ℤ f) k (omega (arith, linear)))

pub greatest_high : (f h x : ℤ) → pos 0 ≤ℤ f → x ≤ℤ h → (f *ℤ x) ≤ℤ (f *ℤ h)
greatest_high f h x n k = scale_le x h f k n

-- ---- partitions
-- what does not lie behind the first wall lies behind the second
pub partition : (v w : Wall) (b : ℤ) → v.bound ≡ b → w.bound ≡ pos 1 -ℤ b → w.run.dx ≡ pos 0 -ℤ v.run.dx → w.run.dy ≡ pos 0 -ℤ v.run.dy → ArePartition v w
partition v w b vb wb dx dy = λ c.
    by_lt_z (determinant v.run.dx v.run.dy c.x c.y) b
    (λ l. inr (record { from = subst (λ x. x ≤ℤ determinant w.run.dx w.run.dy c.x c.y) (sym wb) (subst (λ x. (pos 1 -ℤ b) ≤ℤ x) (sym (opposite_at c)) (next _ b l)) }))
    (λ l. inl (record { from = subst (λ x. x ≤ℤ determinant v.run.dx v.run.dy c.x c.y) (sym vb) l }))
  where
    next : (x b : ℤ) → x <ℤ b → (pos 1 -ℤ b) ≤ℤ (pos 0 -ℤ x)
    next x b l = omega (arith, ints)

    opposite_at : (c : Pt) → determinant w.run.dx w.run.dy c.x c.y ≡ pos 0 -ℤ determinant v.run.dx v.run.dy c.x c.y
    opposite_at c = (λ i. (dx i *ℤ c.y) -ℤ (dy i *ℤ c.x)) ∙ opposite v.run.dx v.run.dy c.x c.y
      where
        opposite : (d e x y : ℤ) → determinant (pos 0 -ℤ d) (pos 0 -ℤ e) x y ≡ pos 0 -ℤ determinant d e x y
        opposite d e x y = ring (d ∷ e ∷ x ∷ y ∷ []) (((num (pos 0) ⊖ var 0) ⊗ var 3) ⊖ ((num (pos 0) ⊖ var 1) ⊗ var 2)) (num (pos 0) ⊖ ((var 0 ⊗ var 3) ⊖ (var 1 ⊗ var 2))) refl

-- ---- regions
pub inside_open : (rect : Rect) (c : Pt) → IsInside rect [] c ↔ IsIn rect c
inside_open rect c = ((λ h. h.in_rect), (λ h. record { in_rect = h; behind = λ w k. absurd (none_in w k) }))

pub behind_more : (walls : List Wall) (w : Wall) (c : Pt) → IsBehindAll walls c → IsBehind w c → IsBehindAll (walls ++ w ∷ []) c
behind_more walls w c h k v m = ⊎_elim (λ n. h v n) (λ n. subst (λ (x : Wall). IsBehind x c) n k) (Contains-push_cases walls w v m)

pub behind_fewer : (walls : List Wall) (w : Wall) (c : Pt) → IsBehindAll (walls ++ w ∷ []) c → IsBehindAll walls c
behind_fewer walls w c h v m = h v (in_push walls v w m)

-- a wall and the one that parts the plane with it part a region
pub parts_by_walls : (rect : Rect) (walls : List Wall) (v w : Wall) → ArePartition v w → AreParts (IsInside rect walls) (IsInside rect (walls ++ v ∷ [])) (IsInside rect (walls ++ w ∷ []))
parts_by_walls rect walls v w are = record {
  same = λ c. (
    (λ h. ⊎_elim
        (λ k. inl (record { in_rect = h.in_rect; behind = behind_more walls v c h.behind k }))
        (λ k. inr (record { in_rect = h.in_rect; behind = behind_more walls w c h.behind k }))
        (are c)),
    (λ h. ⊎_elim
        (λ k. record { in_rect = k.in_rect; behind = behind_fewer walls v c k.behind })
        (λ k. record { in_rect = k.in_rect; behind = behind_fewer walls w c k.behind })
        h),
  );
}

-- and so do the halves of its rectangle
pub parts_by_halves : (rect first second : Rect) (walls : List Wall) → AreHalves rect first second → AreParts (IsInside rect walls) (IsInside first walls) (IsInside second walls)
parts_by_halves rect first second walls are = record {
  same = λ c. (
    (λ h. ⊎_elim
        (λ k. inl (record { in_rect = k; behind = h.behind }))
        (λ k. inr (record { in_rect = k; behind = h.behind }))
        ((are.same c).0 h.in_rect)),
    (λ h. ⊎_elim
        (λ k. record { in_rect = (are.same c).1 (inl k.in_rect); behind = k.behind })
        (λ k. record { in_rect = (are.same c).1 (inr k.in_rect); behind = k.behind })
        h),
  );
}

-- a part of what is inside may be missed where it has no pixel
pub missed_inside : (rect : Rect) (walls : List Wall) (w : Wall) (c : Pt) → Contains walls w → ((p : Pt) → IsIn rect p → IsBehind w p → ⊥) → IsInside rect walls c → ⊥
missed_inside rect walls w c h none k = none c k.in_rect (k.behind w h)

-- ---- pixels that are kept
pub all_none : (c : Pt) → IsBehindAll [] c
all_none c w h = absurd (none_in w h)

pub all_more : (walls : List Wall) (i : ℕ) (w : Wall) (c : Pt) → i < length walls → w ≡ get_or walls i w → IsBehindAll (take i walls) c → IsBehind w c → IsBehindAll (take (i + 1) walls) c
all_more walls i w c below is h k v m = ⊎_elim (λ n. h v n) (λ n. subst (λ (x : Wall). IsBehind x c) n k) ((in_take_more walls i w below is v).0 m)

pub kept_none : (walls : List Wall) → AreKept walls [] []
kept_none walls = record { same = λ c. (λ h. absurd (none_in c h), λ h. absurd (none_in c h.0)) }

module _ (walls : List Wall) (pixels : List Pt) (i : ℕ) (p : Pt) (list : List Pt) (below : i < length pixels) (is : p ≡ get_or pixels i p) (h : AreKept walls (take i pixels) list) where
  more : (c : Pt) → Contains (take (i + 1) pixels) c ↔ (Contains (take i pixels) c ⊎ (p ≡ c))
  more c = in_take_more pixels i p below is c

  pub kept_push : IsBehindAll walls p → AreKept walls (take (i + 1) pixels) (list ++ p ∷ [])
  kept_push b = record {
    same = λ c. (
      (λ k. ⊎_elim
          (λ m. let r = (h.same c).0 m in ((more c).1 (inl r.0), r.1))
          (λ m. ((more c).1 (inr m), subst (λ (x : Pt). IsBehindAll walls x) m b))
          (Contains-push_cases list p c k)),
      (λ k. ⊎_elim
          (λ m. in_push list c p ((h.same c).1 (m, k.1)))
          (λ m. subst (λ (x : Pt). Contains (list ++ p ∷ []) x) m (Contains-push list p))
          ((more c).0 k.0)),
    );
  }

  pub kept_skip : (IsBehindAll walls p → ⊥) → AreKept walls (take (i + 1) pixels) list
  kept_skip n = record {
    same = λ c. (
      (λ k. let r = (h.same c).0 k in ((more c).1 (inl r.0), r.1)),
      (λ k. ⊎_elim
          (λ m. (h.same c).1 (m, k.1))
          (λ m. absurd (n (subst (λ (x : Pt). IsBehindAll walls x) (sym m) k.1)))
          ((more c).0 k.0)),
    );
  }

-- without walls all are
pub kept_all : (pixels : List Pt) → AreKept [] pixels pixels
kept_all pixels = record { same = λ c. ((λ h. (h, all_none c)), (λ h. h.0)) }

-- ---- hot pixels that are kept
pub hot_same : (Inside : Pt → Type 0) (lines : List Edge) (old xs ys : List Pt) → ((c : Pt) → Contains ys c ↔ Contains xs c) → HasHotInside Inside lines old xs → HasHotInside Inside lines old ys
hot_same Inside lines old xs ys same h = record { same = λ c. ((λ k. (h.same c).0 ((same c).0 k)), (λ k. (same c).1 ((h.same c).1 k))) }

pub hot_kept : (rect : Rect) (walls : List Wall) (lines : List Edge) (pixels some : List Pt) → HasHotInside (IsIn rect) lines [] pixels → AreKept walls pixels some → HasHotInside (IsInside rect walls) lines [] some
hot_kept rect walls lines pixels some h g = record {
  same = λ c. (
    (λ k. let r = (g.same c).0 k in ⊎_elim (λ m. inl m) (λ m. inr (m.0, record { in_rect = m.1; behind = r.1 })) ((h.same c).0 r.0)),
    (λ k. ⊎_elim (λ m. absurd (none_in c m)) (λ m. (g.same c).1 ((h.same c).1 (inr (m.0, m.1.in_rect)), m.1.behind)) k),
  );
}

-- without walls, what is hot inside is hot in the rectangle
pub hot_open : (rect : Rect) (lines : List Edge) (old new : List Pt) → HasHotInside (IsInside rect []) lines old new → HasHotInside (IsIn rect) lines old new
hot_open rect lines old new h = record {
  same = λ c. (
    (λ k. ⊎_elim (λ m. inl m) (λ m. inr (m.0, m.1.in_rect)) ((h.same c).0 k)),
    (λ k. (h.same c).1 (⊎_elim (λ m. inl m) (λ m. inr (m.0, (inside_open rect c).1 m.1)) k)),
  );
}

-- ---- lines
pub reaching_from : (Inside Other : Pt → Type 0) (lines part : List Line) → ((c : Pt) → Inside c → Other c) → AreReaching Other lines part → AreReaching Inside lines part
reaching_from Inside Other lines part to h = record { among = h.among; complete = λ l c k i m. h.complete l c k (to c i) m }
