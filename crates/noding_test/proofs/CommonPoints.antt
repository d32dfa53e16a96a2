-- Two edges share a point that is no common end exactly where the signs of four determinants say so.
use Rattle.std.proofs.Common.{◌≡◌, ◌⊎◌, inl, inr, refl, sym, ap, subst, ⊎_elim, ◌∙◌, arith}
use Rattle.std.proofs.lemmas.Int.{by_lt_z}
use lib.IntN.{ℤ, pos, ◌+ℤ◌, ◌-ℤ◌, ◌*ℤ◌, neg_ℤ}
use lib.Signed.{◌<ℤ◌, ◌≤ℤ◌}
use Rattle.geom.specs.declared.point.Pt.{Pt}
use Rattle.geom.specs.Pixel.{Point, Coincides}
use Rattle.geom.specs.OnSegment.{IsAt, IsOn}
use Rattle.geom.specs.Order.{IsBefore, IsUpTo}
use Rattle.geom.specs.Determinant.{turn, side}
use Rattle.geom.proofs.Integers.{linear, expand, scale_le, scale_lt, unscale_le, unscale_eq, mul_pos, mul_nonneg, by_sign, once_left}
use Rattle.geom.proofs.Edges.{before_cases, PtOrder, before, equal, after, pt_order}
use Rattle.geom.proofs.Same.{whole_path}
use Rattle.geom.proofs.Meaning.{on_turned}
use Rattle.geom.proofs.Numbers.{from_same, both_ways, weak, strict_gap_is, negated_is_nonneg, negated}
use Rattle.geom.proofs.Orders.{before_itself}

-- ---- a point of the edge from a to b, by weights at its ends

pub record IsWeighted (a b : Pt) (z : Point) (i j : ℤ) : Type 0 where
  pub i_from : pos 0 ≤ℤ i
  pub j_from : pos 0 ≤ℤ j
  pub total : pos 0 <ℤ (i +ℤ j)
  pub x_is : (i +ℤ j) *ℤ z.x ≡ z.n *ℤ (i *ℤ a.x +ℤ j *ℤ b.x)
  pub y_is : (i +ℤ j) *ℤ z.y ≡ z.n *ℤ (i *ℤ a.y +ℤ j *ℤ b.y)

weigh : (n m z d a b : ℤ) → n *ℤ z ≡ d *ℤ (n *ℤ a +ℤ m *ℤ (b -ℤ a)) → ((n -ℤ m) +ℤ m) *ℤ z ≡ d *ℤ ((n -ℤ m) *ℤ a +ℤ m *ℤ b)
weigh n m z d a b h = let k = simp expand at h in simp expand (omega (arith, linear))

weighted : (a b : Pt) (z : Point) (m n : ℤ) → IsAt a b m n z → IsWeighted a b z (n -ℤ m) m
weighted a b z m n t = record {
  i_from = (let h = t.ratio.to in omega (arith, linear));
  j_from = t.ratio.from;
  total = (let h = t.ratio.positive in omega (arith, linear));
  x_is = weigh n m z.x z.n a.x b.x t.x_is;
  y_is = weigh n m z.y z.n a.y b.y t.y_is;
}

-- ---- the sides of the ends, balanced by the weights

moved : (w z d a i j c e : ℤ) → w ≡ i +ℤ j → w *ℤ z ≡ d *ℤ (i *ℤ c +ℤ j *ℤ e) → w *ℤ (z -ℤ d *ℤ a) ≡ d *ℤ (i *ℤ (c -ℤ a) +ℤ j *ℤ (e -ℤ a))
moved w z d a i j c e s h = let k = simp expand at h in rw s (let k' = simp expand at (rw s at h) in simp expand (omega (arith, linear)))

own : (i a b : ℤ) → i *ℤ (a -ℤ a) +ℤ b ≡ b
own i a b = simp expand (omega (arith, linear))

-- on the line
on_line : (w d j u v X Y : ℤ) → pos 0 <ℤ w → w *ℤ X ≡ d *ℤ (j *ℤ u) → w *ℤ Y ≡ d *ℤ (j *ℤ v) → u *ℤ Y -ℤ v *ℤ X ≡ pos 0
on_line w d j u v X Y p h k =
    let h' = simp expand at (ap (λ (t : ℤ). v *ℤ t) h) in
    let k' = simp expand at (ap (λ (t : ℤ). u *ℤ t) k) in
    unscale_eq (u *ℤ Y -ℤ v *ℤ X) (pos 0) w (simp expand (omega (arith, linear))) p

-- what is linear in the point is the mean of what it is at the ends
mean : (w d k l u v X Y cx cy ex ey : ℤ) → pos 0 <ℤ d → w *ℤ X ≡ d *ℤ (k *ℤ cx +ℤ l *ℤ ex) → w *ℤ Y ≡ d *ℤ (k *ℤ cy +ℤ l *ℤ ey) → u *ℤ Y -ℤ v *ℤ X ≡ pos 0
    → k *ℤ (u *ℤ cy -ℤ v *ℤ cx) +ℤ l *ℤ (u *ℤ ey -ℤ v *ℤ ex) ≡ pos 0
mean w d k l u v X Y cx cy ex ey p h g o =
    let h' = simp expand at (ap (λ (t : ℤ). v *ℤ t) h) in
    let g' = simp expand at (ap (λ (t : ℤ). u *ℤ t) g) in
    let o' = simp expand at (ap (λ (t : ℤ). w *ℤ t) o) in
    unscale_eq (k *ℤ (u *ℤ cy -ℤ v *ℤ cx) +ℤ l *ℤ (u *ℤ ey -ℤ v *ℤ ex)) (pos 0) d (simp expand (omega (arith, linear))) p

own_moved : (w z d a i j b : ℤ) → w ≡ i +ℤ j → w *ℤ z ≡ d *ℤ (i *ℤ a +ℤ j *ℤ b) → w *ℤ (z -ℤ d *ℤ a) ≡ d *ℤ (j *ℤ (b -ℤ a))
own_moved w z d a i j b s h = moved w z d a i j a b s h ∙ ap (λ (t : ℤ). d *ℤ t) (own i a (j *ℤ (b -ℤ a)))

sides_balance : (a b c e : Pt) (z : Point) (i j k l : ℤ) → IsWeighted a b z i j → IsWeighted c e z k l → k *ℤ side a b c +ℤ l *ℤ side a b e ≡ pos 0
sides_balance a b c e z i j k l s t = mean (k +ℤ l) z.n k l (b.x -ℤ a.x) (b.y -ℤ a.y) (z.x -ℤ z.n *ℤ a.x) (z.y -ℤ z.n *ℤ a.y) (c.x -ℤ a.x) (c.y -ℤ a.y) (e.x -ℤ a.x) (e.y -ℤ a.y) z.positive
    (moved (k +ℤ l) z.x z.n a.x k l c.x e.x refl t.x_is)
    (moved (k +ℤ l) z.y z.n a.y k l c.y e.y refl t.y_is)
    (on_line (i +ℤ j) z.n j (b.x -ℤ a.x) (b.y -ℤ a.y) (z.x -ℤ z.n *ℤ a.x) (z.y -ℤ z.n *ℤ a.y) s.total
    (own_moved (i +ℤ j) z.x z.n a.x i j b.x refl s.x_is)
    (own_moved (i +ℤ j) z.y z.n a.y i j b.y refl s.y_is))

-- ---- weights with a zero put the point on an end

at_end : (i j z d a b : ℤ) → pos 0 <ℤ (i +ℤ j) → j ≡ pos 0 → (i +ℤ j) *ℤ z ≡ d *ℤ (i *ℤ a +ℤ j *ℤ b) → z ≡ d *ℤ a
at_end i j z d a b p e h =
    let k = simp expand at (rw e at h) in
    unscale_eq z (d *ℤ a) i (omega (arith, linear)) (omega (arith, linear))

first_end : (a b : Pt) (z : Point) (i j : ℤ) → IsWeighted a b z i j → j ≡ pos 0 → Coincides a z
first_end a b z i j w e = record { x_is = at_end i j z.x z.n a.x b.x w.total e w.x_is; y_is = at_end i j z.y z.n a.y b.y w.total e w.y_is }

at_end' : (i j z d a b : ℤ) → pos 0 <ℤ (i +ℤ j) → i ≡ pos 0 → (i +ℤ j) *ℤ z ≡ d *ℤ (i *ℤ a +ℤ j *ℤ b) → z ≡ d *ℤ b
at_end' i j z d a b p e h =
    let k = simp expand at (rw e at h) in
    unscale_eq z (d *ℤ b) j (omega (arith, linear)) (omega (arith, linear))

second_end : (a b : Pt) (z : Point) (i j : ℤ) → IsWeighted a b z i j → i ≡ pos 0 → Coincides b z
second_end a b z i j w e = record { x_is = at_end' i j z.x z.n a.x b.x w.total e w.x_is; y_is = at_end' i j z.y z.n a.y b.y w.total e w.y_is }

no_product : (k F : ℤ) → F ≡ pos 0 → k *ℤ F ≡ pos 0
no_product k F e = rw e (simp expand refl)

-- one of two numbers that are not zero, times its weight, is not balanced by 0
zero_weight : (k G : ℤ) → ¬ (G ≡ pos 0) → pos 0 ≤ℤ k → k *ℤ G ≡ pos 0 → k ≡ pos 0
zero_weight k G n p h = by_lt_z (pos 0) k (λ q. absurd (n (unscale_eq G (pos 0) k (simp expand (omega (arith, linear))) q))) (λ q. omega (arith, linear))

-- ---- the test says that edges meet only at ends

abbrev pub AreOnOneSide : ℤ → ℤ → Type 0
AreOnOneSide F G = ((pos 0 <ℤ F) × (pos 0 <ℤ G)) ⊎ ((F <ℤ pos 0) × (G <ℤ pos 0))

above_none : (k l F G : ℤ) → pos 0 ≤ℤ k → pos 0 ≤ℤ l → pos 0 <ℤ (k +ℤ l) → pos 0 <ℤ F → pos 0 <ℤ G → k *ℤ F +ℤ l *ℤ G ≡ pos 0 → ⊥
above_none k l F G p q r s t h = by_lt_z (pos 0) k
    (λ o. let u = mul_pos k F o s in let v = mul_nonneg l G q (omega (arith, linear)) in omega (arith, linear))
    (λ o. let u = mul_pos l G (omega (arith, linear)) t in let v = mul_nonneg k F p (omega (arith, linear)) in omega (arith, linear))

turned_sum : (k l F G : ℤ) → k *ℤ F +ℤ l *ℤ G ≡ pos 0 → k *ℤ neg_ℤ F +ℤ l *ℤ neg_ℤ G ≡ pos 0
turned_sum k l F G h = simp expand (omega (arith, linear))

unbalanced : (k l F G : ℤ) → pos 0 ≤ℤ k → pos 0 ≤ℤ l → pos 0 <ℤ (k +ℤ l) → AreOnOneSide F G → k *ℤ F +ℤ l *ℤ G ≡ pos 0 → ⊥
unbalanced k l F G p q r (inl (s, t)) h = above_none k l F G p q r s t h
unbalanced k l F G p q r (inr (s, t)) h = above_none k l (neg_ℤ F) (neg_ℤ G) p q r (omega (arith, linear)) (omega (arith, linear)) (turned_sum k l F G h)

-- an edge whose ends are on one side of another's line shares no point with it
pub beside : (a b c e : Pt) (z : Point) → AreOnOneSide (side a b c) (side a b e) → IsOn a b z → IsOn c e z → ⊥
beside a b c e z o (m, n, t) (m', n', t') =
    let s = weighted a b z m n t in
    let r = weighted c e z m' n' t' in
    unbalanced (n' -ℤ m') m' (side a b c) (side a b e) r.i_from r.j_from r.total o (sides_balance a b c e z (n -ℤ m) m (n' -ℤ m') m' s r)

-- an end on another edge's line, the other end not, is the only point of its edge there
pub lone_end : (a b c e : Pt) (z : Point) → (side a b c ≡ pos 0) ⊎ (side a b e ≡ pos 0) → ¬ ((side a b c ≡ pos 0) × (side a b e ≡ pos 0)) → IsOn a b z → IsOn c e z → Coincides c z ⊎ Coincides e z
lone_end a b c e z (inl f) n (m, k, t) (m', k', t') =
    let s = weighted a b z m k t in
    let r = weighted c e z m' k' t' in
    let h = sides_balance a b c e z (k -ℤ m) m (k' -ℤ m') m' s r in
    let u = no_product (k' -ℤ m') (side a b c) f in
    inl (first_end c e z (k' -ℤ m') m' r (zero_weight m' (side a b e) (λ g. n (f, g)) r.j_from (omega (arith, linear))))
lone_end a b c e z (inr g) n (m, k, t) (m', k', t') =
    let s = weighted a b z m k t in
    let r = weighted c e z m' k' t' in
    let h = sides_balance a b c e z (k -ℤ m) m (k' -ℤ m') m' s r in
    let u = no_product m' (side a b e) g in
    inr (second_end c e z (k' -ℤ m') m' r (zero_weight (k' -ℤ m') (side a b c) (λ f. n (f, g)) r.i_from (omega (arith, linear))))

-- both ends of one edge on the other's line, and both ends of that on this one's line
side_step : (a b c e : Pt) → side a b e -ℤ side a b c ≡ turn a b c e
side_step a b c e = simp expand (omega (arith, linear))

side_step' : (a b c e : Pt) → side c e b -ℤ side c e a ≡ neg_ℤ (turn a b c e)
side_step' a b c e = simp expand (omega (arith, linear))

pub one_line : (a b c e : Pt) → (side a b c ≡ pos 0) ⊎ (side a b e ≡ pos 0) → (side c e a ≡ pos 0) × (side c e b ≡ pos 0) → (side a b c ≡ pos 0) × (side a b e ≡ pos 0)
one_line a b c e (inl f) (g, h) = let u = side_step a b c e in let v = side_step' a b c e in (f, omega (arith, linear))
one_line a b c e (inr f) (g, h) = let u = side_step a b c e in let v = side_step' a b c e in (omega (arith, linear), f)

-- ---- the order of points on edges: all points of an edge from a to b are from a to b
below_mean : (i j d a b : ℤ) → pos 0 ≤ℤ i → pos 0 <ℤ d → a ≤ℤ b → (d *ℤ (i *ℤ a +ℤ j *ℤ b)) ≤ℤ ((i +ℤ j) *ℤ (d *ℤ b))
below_mean i j d a b p q h = let u = simp expand at (scale_le a b (d *ℤ i) h (mul_nonneg d i (omega (arith, linear)) p)) in simp expand (omega (arith, linear))

above_mean : (i j d a b : ℤ) → pos 0 ≤ℤ j → pos 0 <ℤ d → a ≤ℤ b → ((i +ℤ j) *ℤ (d *ℤ a)) ≤ℤ (d *ℤ (i *ℤ a +ℤ j *ℤ b))
above_mean i j d a b p q h = let u = simp expand at (scale_le a b (d *ℤ j) h (mul_nonneg d j (omega (arith, linear)) p)) in simp expand (omega (arith, linear))

below : (i j z d a b : ℤ) → pos 0 ≤ℤ i → pos 0 <ℤ (i +ℤ j) → pos 0 <ℤ d → a ≤ℤ b → (i +ℤ j) *ℤ z ≡ d *ℤ (i *ℤ a +ℤ j *ℤ b) → z ≤ℤ (d *ℤ b)
below i j z d a b p q r h e = let u = below_mean i j d a b p r h in unscale_le z (d *ℤ b) (i +ℤ j) (omega (arith, linear)) q

above : (i j z d a b : ℤ) → pos 0 ≤ℤ j → pos 0 <ℤ (i +ℤ j) → pos 0 <ℤ d → a ≤ℤ b → (i +ℤ j) *ℤ z ≡ d *ℤ (i *ℤ a +ℤ j *ℤ b) → (d *ℤ a) ≤ℤ z
above i j z d a b p q r h e = let u = above_mean i j d a b p r h in unscale_le (d *ℤ a) z (i +ℤ j) (omega (arith, linear)) q

-- the far column is reached at the far end alone
far : (i j z d a b : ℤ) → pos 0 ≤ℤ i → pos 0 <ℤ d → a <ℤ b → (i +ℤ j) *ℤ z ≡ d *ℤ (i *ℤ a +ℤ j *ℤ b) → z ≡ d *ℤ b → i ≡ pos 0
far i j z d a b p q h e f = by_lt_z (pos 0) i
    (λ o. absurd (let u = simp expand at (scale_lt a b (d *ℤ i) h (mul_pos d i q o)) in let v = simp expand at (rw f at e) in omega (arith, linear)))
    (λ o. omega (arith, linear))

near : (i j z d a b : ℤ) → pos 0 ≤ℤ j → pos 0 <ℤ d → a <ℤ b → (i +ℤ j) *ℤ z ≡ d *ℤ (i *ℤ a +ℤ j *ℤ b) → z ≡ d *ℤ a → j ≡ pos 0
near i j z d a b p q h e f = by_lt_z (pos 0) j
    (λ o. absurd (let u = simp expand at (scale_lt a b (d *ℤ j) h (mul_pos d j q o)) in let v = simp expand at (rw f at e) in omega (arith, linear)))
    (λ o. omega (arith, linear))

-- z is b or less, and z is a or more
record IsUpToPoint (z : Point) (b : Pt) : Type 0 where
  column : z.x ≤ℤ (z.n *ℤ b.x)
  row : z.x ≡ z.n *ℤ b.x → z.y ≤ℤ (z.n *ℤ b.y)

record IsFromPoint (z : Point) (a : Pt) : Type 0 where
  column : (z.n *ℤ a.x) ≤ℤ z.x
  row : z.x ≡ z.n *ℤ a.x → (z.n *ℤ a.y) ≤ℤ z.y

up_to_end : (a b : Pt) (z : Point) (i j : ℤ) → IsBefore a b → IsWeighted a b z i j → IsUpToPoint z b
up_to_end a b z i j h w = record {
  column = below i j z.x z.n a.x b.x w.i_from w.total z.positive h.column w.x_is;
  row = λ e. ⊎_elim
      (λ l. from_same z.y (z.n *ℤ b.y) (second_end a b z i j w (far i j z.x z.n a.x b.x w.i_from z.positive l w.x_is e)).y_is)
      (λ r. below i j z.y z.n a.y b.y w.i_from w.total z.positive (let o = r.1 in omega (arith, linear)) w.y_is)
      (before_cases a b h);
}

from_start : (a b : Pt) (z : Point) (i j : ℤ) → IsBefore a b → IsWeighted a b z i j → IsFromPoint z a
from_start a b z i j h w = record {
  column = above i j z.x z.n a.x b.x w.j_from w.total z.positive h.column w.x_is;
  row = λ e. ⊎_elim
      (λ l. from_same (z.n *ℤ a.y) z.y (sym (first_end a b z i j w (near i j z.x z.n a.x b.x w.j_from z.positive l w.x_is e)).y_is))
      (λ r. above i j z.y z.n a.y b.y w.j_from w.total z.positive (let o = r.1 in omega (arith, linear)) w.y_is)
      (before_cases a b h);
}

between_columns : (d z b c : ℤ) → pos 0 <ℤ d → b ≤ℤ c → z ≤ℤ (d *ℤ b) → (d *ℤ c) ≤ℤ z → (z ≡ d *ℤ b) × (z ≡ d *ℤ c) × (b ≡ c)
between_columns d z b c p h k l =
    let u = scale_le b c d h (omega (arith, linear)) in
    let e : c ≤ℤ b = unscale_le c b d (omega (arith, linear)) p in
    (omega (arith, linear), omega (arith, linear), omega (arith, linear))

lower : (d y b c : ℤ) → pos 0 <ℤ d → b <ℤ c → y ≤ℤ (d *ℤ b) → (d *ℤ c) ≤ℤ y → ⊥
lower d y b c p h k l = let u = scale_lt b c d h p in omega (arith, linear)

apart_before : (z : Point) (b c : Pt) → IsUpToPoint z b → IsFromPoint z c → IsBefore b c → ⊥
apart_before z b c u v h =
    let e = between_columns z.n z.x b.x c.x z.positive h.column u.column v.column in
    lower z.n z.y b.y c.y z.positive (h.row e.2) (u.row e.0) (v.row e.1)

same_place : (z : Point) (b : Pt) → IsUpToPoint z b → IsFromPoint z b → Coincides b z
same_place z b u v =
    let e : z.x ≡ z.n *ℤ b.x = both_ways z.x (z.n *ℤ b.x) u.column v.column in
    record { x_is = e; y_is = both_ways z.y (z.n *ℤ b.y) (u.row e) (v.row e) }

-- an edge that ends before another begins, or there, shares no other point with it
pub following : (a b c e : Pt) (z : Point) → IsBefore a b → IsBefore c e → IsUpTo b c → IsOn a b z → IsOn c e z → Coincides b z × Coincides c z
following a b c e z h k (inl p) (m, n, t) (m', n', t') =
    let u = up_to_end a b z (n -ℤ m) m h (weighted a b z m n t) in
    let v = from_start c e z (n' -ℤ m') m' k (weighted c e z m' n' t') in
    let o = same_place z b u (subst (λ (w : Pt). IsFromPoint z w) (sym p) v) in
    (o, subst (λ (w : Pt). Coincides w z) p o)
following a b c e z h k (inr p) (m, n, t) (m', n', t') = absurd (apart_before z b c (up_to_end a b z (n -ℤ m) m h (weighted a b z m n t)) (from_start c e z (n' -ℤ m') m' k (weighted c e z m' n' t')) p)

-- ---- the test says that edges share another point

abbrev pub IsNeither : Pt → Pt → Point → Type 0
IsNeither a b z = Coincides a z ⊎ Coincides b z → ⊥

-- a common point that is no end of the one or no end of the other
pub record ShareInner (a b c e : Pt) : Type 0 where
  pub z : Point
  pub on_first : IsOn a b z
  pub on_second : IsOn c e z
  pub inner : IsNeither a b z ⊎ IsNeither c e z

pub exchanged : (a b c e : Pt) → ShareInner a b c e → ShareInner c e a b
exchanged a b c e h = record { z = h.z; on_first = h.on_second; on_second = h.on_first; inner = ⊎_elim (λ n. inr n) (λ n. inl n) h.inner }

-- points of the grid
at_whole : Pt → Point
at_whole h = record { x = h.x; y = h.y; n = pos 1; positive = omega (arith, linear) }

first_is : (c e : ℤ) → pos 1 *ℤ c ≡ pos 1 *ℤ (pos 1 *ℤ c +ℤ pos 0 *ℤ (e -ℤ c))
first_is c e = simp expand (omega (arith, linear))

second_is : (c e : ℤ) → pos 1 *ℤ e ≡ pos 1 *ℤ (pos 1 *ℤ c +ℤ pos 1 *ℤ (e -ℤ c))
second_is c e = simp expand (omega (arith, linear))

start_on : (c e : Pt) → IsOn c e (at_whole c)
unfolding at_whole
start_on c e = (pos 0, pos 1, record { ratio = record { positive = omega (arith, linear); from = omega (arith, linear); to = omega (arith, linear) }; x_is = first_is c.x e.x; y_is = first_is c.y e.y })

end_on : (c e : Pt) → IsOn c e (at_whole e)
unfolding at_whole
end_on c e = (pos 1, pos 1, record { ratio = record { positive = omega (arith, linear); from = omega (arith, linear); to = omega (arith, linear) }; x_is = second_is c.x e.x; y_is = second_is c.y e.y })

same_whole : (h o : Pt) → Coincides o (at_whole h) → h ≡ o
unfolding at_whole
same_whole h o w = whole_path (w.x_is ∙ once_left o.x, w.y_is ∙ once_left o.y)

neither_whole : (a b h : Pt) → IsBefore a h → IsBefore h b → IsNeither a b (at_whole h)
neither_whole a b h p q (inl w) = before_itself h (subst (λ (o : Pt). IsBefore o h) (sym (same_whole h a w)) p)
neither_whole a b h p q (inr w) = before_itself h (subst (λ (o : Pt). IsBefore h o) (sym (same_whole h b w)) q)

own_up : (c e h : ℤ) → (e -ℤ c) *ℤ h ≡ pos 1 *ℤ ((e -ℤ c) *ℤ c +ℤ (h -ℤ c) *ℤ (e -ℤ c))
own_up c e h = simp expand (omega (arith, linear))

other_up : (c e h c' e' h' : ℤ) → (e -ℤ c) *ℤ (h' -ℤ c') -ℤ (e' -ℤ c') *ℤ (h -ℤ c) ≡ pos 0 → (e -ℤ c) *ℤ h' ≡ pos 1 *ℤ ((e -ℤ c) *ℤ c' +ℤ (h -ℤ c) *ℤ (e' -ℤ c'))
other_up c e h c' e' h' o = let u = simp expand at o in simp expand (omega (arith, linear))

turned_side : (c e h c' e' h' : ℤ) → (e -ℤ c) *ℤ (h' -ℤ c') -ℤ (e' -ℤ c') *ℤ (h -ℤ c) ≡ pos 0 → (e' -ℤ c') *ℤ (h -ℤ c) -ℤ (e -ℤ c) *ℤ (h' -ℤ c') ≡ pos 0
turned_side c e h c' e' h' o = omega (arith, linear)

on_by_columns : (c e h : Pt) → side c e h ≡ pos 0 → c.x <ℤ e.x → c.x ≤ℤ h.x → h.x ≤ℤ e.x → IsOn c e (at_whole h)
unfolding at_whole
on_by_columns c e h o l p q = (h.x -ℤ c.x, e.x -ℤ c.x, record { ratio = record { positive = omega (arith, linear); from = omega (arith, linear); to = omega (arith, linear) }; x_is = own_up c.x e.x h.x; y_is = other_up c.x e.x h.x c.y e.y h.y o })

on_by_rows : (c e h : Pt) → side c e h ≡ pos 0 → c.y <ℤ e.y → c.y ≤ℤ h.y → h.y ≤ℤ e.y → IsOn c e (at_whole h)
unfolding at_whole
on_by_rows c e h o l p q = (h.y -ℤ c.y, e.y -ℤ c.y, record { ratio = record { positive = omega (arith, linear); from = omega (arith, linear); to = omega (arith, linear) }; x_is = other_up c.y e.y h.y c.x e.x h.x (turned_side c.x e.x h.x c.y e.y h.y o); y_is = own_up c.y e.y h.y })

one_column : (x y z : ℤ) → x ≤ℤ y → y ≤ℤ z → z ≤ℤ x → (x ≡ y) × (y ≡ z)
one_column x y z h k l = (omega (arith, linear), omega (arith, linear))

-- a point of the grid on the line and between the ends is on the edge
inside_on : (c e h : Pt) → side c e h ≡ pos 0 → IsBefore c h → IsBefore h e → IsOn c e (at_whole h)
inside_on c e h o p q = by_lt_z c.x e.x
    (λ l. on_by_columns c e h o l p.column q.column)
    (λ l. let s = one_column c.x h.x e.x p.column q.column l in let u = p.row s.0 in let v = q.row s.1 in
    on_by_rows c e h o (omega (arith, linear)) (weak _ _ u) (weak _ _ v))

inner_end : (a b c e h : Pt) → side a b h ≡ pos 0 → IsBefore a h → IsBefore h b → (h ≡ c) ⊎ (h ≡ e) → ShareInner a b c e
inner_end a b c e h o p q (inl r) = record { z = at_whole h; on_first = inside_on a b h o p q; on_second = subst (λ (w : Pt). IsOn w e (at_whole h)) r (start_on h e); inner = inl (neither_whole a b h p q) }
inner_end a b c e h o p q (inr r) = record { z = at_whole h; on_first = inside_on a b h o p q; on_second = subst (λ (w : Pt). IsOn c w (at_whole h)) r (end_on c h); inner = inl (neither_whole a b h p q) }

-- two points on the line of a and b have both of these on their line
cross_back : (u v p q r s : ℤ) → u *ℤ q -ℤ v *ℤ p ≡ pos 0 → u *ℤ s -ℤ v *ℤ r ≡ pos 0 → u *ℤ (p *ℤ s -ℤ q *ℤ r) ≡ u *ℤ pos 0
cross_back u v p q r s f g =
    let f' = simp expand at (ap (λ (t : ℤ). r *ℤ t) f) in
    let g' = simp expand at (ap (λ (t : ℤ). p *ℤ t) g) in
    simp expand (omega (arith, linear))

cross_back' : (u v p q r s : ℤ) → u *ℤ q -ℤ v *ℤ p ≡ pos 0 → u *ℤ s -ℤ v *ℤ r ≡ pos 0 → v *ℤ (p *ℤ s -ℤ q *ℤ r) ≡ v *ℤ pos 0
cross_back' u v p q r s f g =
    let f' = simp expand at (ap (λ (t : ℤ). s *ℤ t) f) in
    let g' = simp expand at (ap (λ (t : ℤ). q *ℤ t) g) in
    simp expand (omega (arith, linear))

no_area : (a b c e : Pt) → IsBefore a b → side a b c ≡ pos 0 → side a b e ≡ pos 0 → turn a c a e ≡ pos 0
no_area a b c e h f g = ⊎_elim
    (λ l. unscale_eq (turn a c a e) (pos 0) (b.x -ℤ a.x) (cross_back (b.x -ℤ a.x) (b.y -ℤ a.y) (c.x -ℤ a.x) (c.y -ℤ a.y) (e.x -ℤ a.x) (e.y -ℤ a.y) f g) (strict_gap_is a.x b.x l))
    (λ r. unscale_eq (turn a c a e) (pos 0) (b.y -ℤ a.y) (cross_back' (b.x -ℤ a.x) (b.y -ℤ a.y) (c.x -ℤ a.x) (c.y -ℤ a.y) (e.x -ℤ a.x) (e.y -ℤ a.y) f g) (strict_gap_is a.y b.y r.1))
    (before_cases a b h)

side_of_area : (a c e : Pt) → side c e a ≡ turn a c a e
side_of_area a c e = simp expand (omega (arith, linear))

line_back : (a b c e : Pt) → IsBefore a b → side a b c ≡ pos 0 → side a b e ≡ pos 0 → (side c e a ≡ pos 0) × (side c e b ≡ pos 0)
line_back a b c e h f g =
    let p : side c e a ≡ pos 0 = side_of_area a c e ∙ no_area a b c e h f g in
    let u = side_step a b c e in
    let v = side_step' a b c e in
    (p, omega (arith, linear))

-- the midpoint of an edge, where the edges are one
halfway : (a b : ℤ) → pos 2 *ℤ (a +ℤ b) ≡ pos 2 *ℤ (pos 2 *ℤ a +ℤ pos 1 *ℤ (b -ℤ a))
halfway a b = simp expand (omega (arith, linear))

middle : Pt → Pt → Point
middle a b = record { x = a.x +ℤ b.x; y = a.y +ℤ b.y; n = pos 2; positive = omega (arith, linear) }

middle_on : (a b : Pt) → IsOn a b (middle a b)
unfolding middle
middle_on a b = (pos 1, pos 2, record { ratio = record { positive = omega (arith, linear); from = omega (arith, linear); to = omega (arith, linear) }; x_is = halfway a.x b.x; y_is = halfway a.y b.y })

not_middle : (a b : Pt) → IsBefore a b → IsNeither a b (middle a b)
unfolding middle
not_middle a b h (inl w) = before_itself a (subst (λ (o : Pt). IsBefore a o) (sym (whole_path (lower_half a.x b.x w.x_is, lower_half a.y b.y w.y_is))) h)
  where
    lower_half : (a b : ℤ) → a +ℤ b ≡ pos 2 *ℤ a → a ≡ b
    lower_half a b h = let k = simp expand at h in omega (arith, linear)
not_middle a b h (inr w) = before_itself a (subst (λ (o : Pt). IsBefore a o) (sym (whole_path (upper_half a.x b.x w.x_is, upper_half a.y b.y w.y_is))) h)
  where
    upper_half : (a b : ℤ) → a +ℤ b ≡ pos 2 *ℤ b → a ≡ b
    upper_half a b h = let k = simp expand at h in omega (arith, linear)

one_edge : (a b c e : Pt) → IsBefore a b → a ≡ c → b ≡ e → ShareInner a b c e
one_edge a b c e h p q = record {
  z = middle a b;
  on_first = middle_on a b;
  on_second = subst (λ (w : Pt). IsOn w e (middle a b)) p (subst (λ (w : Pt). IsOn a w (middle a b)) q (middle_on a b));
  inner = inl (not_middle a b h);
}

-- edges on one line, each beginning before the other ends
overlapping_ends : (a b c e : Pt) → IsBefore a b → IsBefore c e → (side a b c ≡ pos 0) × (side a b e ≡ pos 0) → (side c e a ≡ pos 0) × (side c e b ≡ pos 0) → a ≡ c → PtOrder b e → ShareInner a b c e
overlapping_ends a b c e h k f g p (before l) = exchanged c e a b (inner_end c e a b b g.1 (subst (λ (w : Pt). IsBefore w b) p h) l (inr refl))
overlapping_ends a b c e h k f g p (equal q) = one_edge a b c e h p q
overlapping_ends a b c e h k f g p (after l) = inner_end a b c e e f.1 (subst (λ (w : Pt). IsBefore w e) (sym p) k) l (inr refl)

overlapping_by : (a b c e : Pt) → IsBefore a b → IsBefore c e → (side a b c ≡ pos 0) × (side a b e ≡ pos 0) → (side c e a ≡ pos 0) × (side c e b ≡ pos 0) → IsBefore c b → IsBefore a e → PtOrder a c → ShareInner a b c e
overlapping_by a b c e h k f g p q (before l) = inner_end a b c e c f.0 l p (inl refl)
overlapping_by a b c e h k f g p q (equal l) = overlapping_ends a b c e h k f g l (pt_order b e)
overlapping_by a b c e h k f g p q (after l) = exchanged c e a b (inner_end c e a b a g.0 l q (inl refl))

pub overlapping : (a b c e : Pt) → IsBefore a b → IsBefore c e → (side a b c ≡ pos 0) × (side a b e ≡ pos 0) → IsBefore c b → IsBefore a e → ShareInner a b c e
overlapping a b c e h k f p q = overlapping_by a b c e h k f (line_back a b c e h f.0 f.1) p q (pt_order a c)

-- ---- edges whose ends are on two sides of each other's line, by the weights at which they cross

crossing_is : (cx cy ex ey fx fy gx gy : ℤ) →
    ((gx -ℤ fx) *ℤ (ey -ℤ fy) -ℤ (gy -ℤ fy) *ℤ (ex -ℤ fx)) *ℤ cx +ℤ neg_ℤ ((gx -ℤ fx) *ℤ (cy -ℤ fy) -ℤ (gy -ℤ fy) *ℤ (cx -ℤ fx)) *ℤ ex
    ≡ neg_ℤ ((ex -ℤ cx) *ℤ (gy -ℤ cy) -ℤ (ey -ℤ cy) *ℤ (gx -ℤ cx)) *ℤ fx +ℤ ((ex -ℤ cx) *ℤ (fy -ℤ cy) -ℤ (ey -ℤ cy) *ℤ (fx -ℤ cx)) *ℤ gx
crossing_is cx cy ex ey fx fy gx gy = simp expand (omega (arith, linear))

cross_sum : (p q u v x y z w : ℤ) → p *ℤ x +ℤ neg_ℤ q *ℤ y ≡ neg_ℤ u *ℤ z +ℤ v *ℤ w → neg_ℤ p *ℤ x +ℤ q *ℤ y ≡ u *ℤ z +ℤ neg_ℤ v *ℤ w
cross_sum p q u v x y z w h = let h' = simp expand at h in simp expand (omega (arith, linear))

crossing_x : (c e f g : Pt) → side f g e *ℤ c.x +ℤ neg_ℤ (side f g c) *ℤ e.x ≡ neg_ℤ (side c e g) *ℤ f.x +ℤ side c e f *ℤ g.x
crossing_x c e f g = crossing_is c.x c.y e.x e.y f.x f.y g.x g.y

crossing_y : (c e f g : Pt) → side f g e *ℤ c.y +ℤ neg_ℤ (side f g c) *ℤ e.y ≡ neg_ℤ (side c e g) *ℤ f.y +ℤ side c e f *ℤ g.y
crossing_y c e f g = simp expand (omega (arith, linear))

at_weights : (i j a b : ℤ) → (i +ℤ j) *ℤ (i *ℤ a +ℤ j *ℤ b) ≡ (i +ℤ j) *ℤ ((i +ℤ j) *ℤ a +ℤ j *ℤ (b -ℤ a))
at_weights i j a b = simp expand (omega (arith, linear))

at_other_weights : (i j k l a b c e : ℤ) → i +ℤ j ≡ k +ℤ l → i *ℤ a +ℤ j *ℤ b ≡ k *ℤ c +ℤ l *ℤ e → (k +ℤ l) *ℤ (i *ℤ a +ℤ j *ℤ b) ≡ (i +ℤ j) *ℤ ((k +ℤ l) *ℤ c +ℤ l *ℤ (e -ℤ c))
at_other_weights i j k l a b c e s p =
    ap (λ (t : ℤ). (k +ℤ l) *ℤ t) p ∙ at_weights k l c e ∙ ap (λ (t : ℤ). t *ℤ ((k +ℤ l) *ℤ c +ℤ l *ℤ (e -ℤ c))) (sym s)

-- a point with two positive weights is no end
not_first : (k l c e : ℤ) → pos 0 <ℤ l → k *ℤ c +ℤ l *ℤ e ≡ (k +ℤ l) *ℤ c → c ≡ e
not_first k l c e p h = unscale_eq c e l (let h' = simp expand at h in omega (arith, linear)) p

not_second : (k l c e : ℤ) → pos 0 <ℤ k → k *ℤ c +ℤ l *ℤ e ≡ (k +ℤ l) *ℤ e → c ≡ e
not_second k l c e p h = unscale_eq c e k (let h' = simp expand at h in omega (arith, linear)) p

by_weights : (n x t k l c e : ℤ) → n ≡ k +ℤ l → x ≡ k *ℤ c +ℤ l *ℤ e → x ≡ n *ℤ t → k *ℤ c +ℤ l *ℤ e ≡ (k +ℤ l) *ℤ t
by_weights n x t k l c e s h g = sym h ∙ g ∙ ap (λ (u : ℤ). u *ℤ t) s

neither_by : (c e : Pt) (z : Point) (k l : ℤ) → IsBefore c e → z.n ≡ k +ℤ l → z.x ≡ k *ℤ c.x +ℤ l *ℤ e.x → z.y ≡ k *ℤ c.y +ℤ l *ℤ e.y → pos 0 <ℤ k → pos 0 <ℤ l → IsNeither c e z
neither_by c e z k l h s hx hy p q (inl w) = before_itself c (subst (λ (o : Pt). IsBefore c o) (sym (whole_path (not_first k l c.x e.x q (by_weights z.n z.x c.x k l c.x e.x s hx w.x_is), not_first k l c.y e.y q (by_weights z.n z.y c.y k l c.y e.y s hy w.y_is)))) h)
neither_by c e z k l h s hx hy p q (inr w) = before_itself c (subst (λ (o : Pt). IsBefore c o) (sym (whole_path (not_second k l c.x e.x p (by_weights z.n z.x e.x k l c.x e.x s hx w.x_is), not_second k l c.y e.y p (by_weights z.n z.y e.y k l c.y e.y s hy w.y_is)))) h)

-- a point with weights i and j on the one edge, and positive ones, k and l, of the same total on the other
common_inner : (a b c e : Pt) (i j k l : ℤ) → IsBefore c e ⊎ IsBefore e c → pos 0 ≤ℤ i → pos 0 ≤ℤ j → pos 0 <ℤ k → pos 0 <ℤ l → i +ℤ j ≡ k +ℤ l → i *ℤ a.x +ℤ j *ℤ b.x ≡ k *ℤ c.x +ℤ l *ℤ e.x → i *ℤ a.y +ℤ j *ℤ b.y ≡ k *ℤ c.y +ℤ l *ℤ e.y → ShareInner a b c e
common_inner a b c e i j k l h pi pj pk pl s hx hy =
    let z : Point = record { x = i *ℤ a.x +ℤ j *ℤ b.x; y = i *ℤ a.y +ℤ j *ℤ b.y; n = i +ℤ j; positive = omega (arith, linear) } in record {
      z = z;
      on_first = (j, i +ℤ j, record { ratio = record { positive = omega (arith, linear); from = pj; to = omega (arith, linear) }; x_is = at_weights i j a.x b.x; y_is = at_weights i j a.y b.y });
      on_second = (l, k +ℤ l, record { ratio = record { positive = omega (arith, linear); from = omega (arith, linear); to = omega (arith, linear) }; x_is = at_other_weights i j k l a.x b.x c.x e.x s hx; y_is = at_other_weights i j k l a.y b.y c.y e.y s hy });
      inner = inr (⊎_elim
          (λ o. neither_by c e z k l o s hx hy pk pl)
          (λ o w. neither_by e c z l k o (s ∙ swap k l) (hx ∙ swap (k *ℤ c.x) (l *ℤ e.x)) (hy ∙ swap (k *ℤ c.y) (l *ℤ e.y)) pl pk (⊎_elim (λ r. inr r) (λ r. inl r) w))
          h);
    }
  where
    swap : (x y : ℤ) → x +ℤ y ≡ y +ℤ x
    swap x y = omega (arith, linear)

-- c to the right of a b and e to the left; a and b not on one side of c e
crossing_up : (a b c e : Pt) → IsBefore c e ⊎ IsBefore e c → side a b c <ℤ pos 0 → pos 0 <ℤ side a b e → ¬ (AreOnOneSide (side c e a) (side c e b)) → ShareInner a b c e
crossing_up a b c e h p q n =
    let F = side a b c in let G = side a b e in let C = side c e a in let E = side c e b in
    let u : G -ℤ F ≡ turn a b c e = side_step a b c e in
    let v : E -ℤ C ≡ neg_ℤ (turn a b c e) = side_step' a b c e in
    let c_from : pos 0 ≤ℤ side c e a = by_lt_z (side c e a) (pos 0) (λ l. absurd (n (inr (l, below_both (side a b c) (side a b e) (side c e a) (side c e b) (turn a b c e) u v p q l)))) (λ l. l) in
    let e_to : side c e b ≤ℤ pos 0 = by_lt_z (pos 0) (side c e b) (λ l. absurd (n (inl (above_both (side a b c) (side a b e) (side c e a) (side c e b) (turn a b c e) u v p q l, l)))) (λ l. l) in
    common_inner a b c e (neg_ℤ (side c e b)) (side c e a) (side a b e) (neg_ℤ (side a b c)) h
    (negated_is_nonneg (side c e b) e_to) c_from q (negated (side a b c) p)
    (totals (side a b c) (side a b e) (side c e a) (side c e b) (turn a b c e) u v)
    (cross_sum (side c e b) (side c e a) (side a b e) (side a b c) a.x b.x c.x e.x (crossing_x a b c e))
    (cross_sum (side c e b) (side c e a) (side a b e) (side a b c) a.y b.y c.y e.y (crossing_y a b c e))
  where
    below_both : (F G C E D : ℤ) → G -ℤ F ≡ D → E -ℤ C ≡ neg_ℤ D → F <ℤ pos 0 → pos 0 <ℤ G → C <ℤ pos 0 → E <ℤ pos 0
    below_both F G C E D u v p q l = omega (arith, linear)

    above_both : (F G C E D : ℤ) → G -ℤ F ≡ D → E -ℤ C ≡ neg_ℤ D → F <ℤ pos 0 → pos 0 <ℤ G → pos 0 <ℤ E → pos 0 <ℤ C
    above_both F G C E D u v p q l = omega (arith, linear)

    totals : (F G C E D : ℤ) → G -ℤ F ≡ D → E -ℤ C ≡ neg_ℤ D → neg_ℤ E +ℤ C ≡ G +ℤ neg_ℤ F
    totals F G C E D u v = omega (arith, linear)

-- an edge turned round
second_turned : (a b c e : Pt) → ShareInner a b e c → ShareInner a b c e
second_turned a b c e h = record { z = h.z; on_first = h.on_first; on_second = on_turned e c h.z h.on_second; inner = ⊎_elim (λ n. inl n) (λ n. inr (λ w. n (⊎_elim (λ r. inr r) (λ r. inl r) w))) h.inner }

side_turned : (c e h : Pt) → side e c h ≡ neg_ℤ (side c e h)
side_turned c e h = simp expand (omega (arith, linear))

one_side_turned : (F G F' G' : ℤ) → F' ≡ neg_ℤ F → G' ≡ neg_ℤ G → AreOnOneSide F' G' → AreOnOneSide F G
one_side_turned F G F' G' p q (inl r) = inr (omega (arith, linear, r), omega (arith, linear, r))
one_side_turned F G F' G' p q (inr r) = inl (omega (arith, linear, r), omega (arith, linear, r))

-- neither end of one edge is on the other's line, and the ends of neither are on one side
pub crossing_inner : (a b c e : Pt) → IsBefore c e → ¬ ((side a b c ≡ pos 0) ⊎ (side a b e ≡ pos 0)) → ¬ (AreOnOneSide (side a b c) (side a b e)) → ¬ (AreOnOneSide (side c e a) (side c e b)) → ShareInner a b c e
crossing_inner a b c e h n s t = by_sign (side a b c)
    (λ l. by_sign (side a b e)
    (λ r. absurd (s (inr (l, r))))
    (λ r. absurd (n (inr r)))
    (λ r. crossing_up a b c e (inl h) l r t))
    (λ l. absurd (n (inl l)))
    (λ l. by_sign (side a b e)
    (λ r. second_turned a b c e (crossing_up a b e c (inr h) r l (λ o. t (one_side_turned (side c e a) (side c e b) (side e c a) (side e c b) (side_turned c e a) (side_turned c e b) o))))
    (λ r. absurd (n (inr r)))
    (λ r. absurd (s (inl (l, r)))))
