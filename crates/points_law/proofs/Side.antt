-- At the side points of e exactly those edges are above that are above e in a column of e, and e itself at the right one.
use mathlib.Core.Path.{◌≡◌, refl, sym, ◌∙◌, ap, subst}
use mathlib.Core.Bool.{Bool, true, false}
use mathlib.Core.List.{List}
use mathlib.Core.Logic.{◌⊎◌, inl, inr}
use native.Mathlib.Omega.{arith}
use lib.IntN.{ℤ, pos, negsuc, ◌+ℤ◌, ◌-ℤ◌, ◌*ℤ◌, neg_ℤ}
use lib.Signed.{◌<ℤ◌, ◌≤ℤ◌, lt_z, le_z}
use borrow.Author.Differences.{ints}
use Rattle.geom.specs.declared.edge.Edge.{Edge}
use Rattle.geom.specs.Pixel.{Point}
use Rattle.geom.proofs.Lists.{In, Distinct}
use Rattle.points_law.proofs.Choices.{◌⊕◌, ◌∧∧◌, run, rise, Small, MeetAtEnds, Noded, above, counted, parity, K, left, right}
use Rattle.geom.proofs.Integers.{expand, linear, mul_nonneg, mul_pos, by_sign, none_right}
use Rattle.geom.proofs.Numbers.{negated, from_strict_gap}
use Rattle.points_law.proofs.Sign.{sign}
use Rattle.points_law.proofs.Meet.{off, slope, gap, no_meet}
use Rattle.points_law.proofs.Sums.{par_cong, par_xor}
use Rattle.points_law.proofs.Even.{same, same_is, same_refl, not_true, once}
use Rattle.points_law.proofs.Column.{cv, ab, cv_low, cv_high, cv_run, no_root, differ, not_above_itself, among}
use Rattle.points_law.proofs.Heights.{InColumn, covers_is, above_is, lift}

-- z is the midpoint of e moved by d / (2 K) times the normal, where d is 2 or -2
pub record SideOf (e : Edge) (z : Point) (d : ℤ) : Type 0 where
  pub which : (d ≡ pos 2) ⊎ (d ≡ negsuc 1)
  pub x_is : z.x ≡ K *ℤ (e.p.x +ℤ e.q.x) -ℤ d *ℤ rise e
  pub y_is : z.y ≡ K *ℤ (e.p.y +ℤ e.q.y) +ℤ d *ℤ run e
  pub n_is : z.n ≡ K *ℤ pos 2

pub left_side : (e : Edge) → SideOf e (left e) (pos 2)
left_side e = record { which = inl refl; x_is = refl; y_is = refl; n_is = refl }

pub right_side : (e : Edge) → SideOf e (right e) (negsuc 1)
right_side e = record { which = inr refl; x_is = minus (K *ℤ (e.p.x +ℤ e.q.x)) (rise e); y_is = plus (K *ℤ (e.p.y +ℤ e.q.y)) (run e); n_is = refl }
  where
    minus : (a b : ℤ) → a +ℤ pos 2 *ℤ b ≡ a -ℤ negsuc 1 *ℤ b
    minus a b = omega (arith, ints)

    plus : (a b : ℤ) → a -ℤ pos 2 *ℤ b ≡ a +ℤ negsuc 1 *ℤ b
    plus a b = omega (arith, ints)

-- ---- the column of a side point
pub record Bounded (s : ℤ) : Type 0 where
  pub low : negsuc 536870911 ≤ℤ s
  pub high : s ≤ℤ pos 536870912

pub rise_bound : (e : Edge) → Small e → Bounded (rise e)
rise_bound e s = record { low = s.rise_low; high = s.rise_high }

pub run_bound : (e : Edge) → Small e → Bounded (run e)
run_bound e s = record { low = s.run_low; high = s.run_high }

pub twice_d : (d s : ℤ) → (d ≡ pos 2) ⊎ (d ≡ negsuc 1) → Bounded s → (negsuc 1073741823 ≤ℤ (d *ℤ s)) × ((d *ℤ s) ≤ℤ pos 1073741824)
twice_d d s (inl h) b = subst (λ (t : ℤ). (negsuc 1073741823 ≤ℤ (t *ℤ s)) × ((t *ℤ s) ≤ℤ pos 1073741824)) (sym h) (plus s b)
  where
    plus : (s : ℤ) → Bounded s → (negsuc 1073741823 ≤ℤ (pos 2 *ℤ s)) × ((pos 2 *ℤ s) ≤ℤ pos 1073741824)
    plus s b = omega (arith, ints, b.low, b.high)
twice_d d s (inr h) b = subst (λ (t : ℤ). (negsuc 1073741823 ≤ℤ (t *ℤ s)) × ((t *ℤ s) ≤ℤ pos 1073741824)) (sym h) (minus s b)
  where
    minus : (s : ℤ) → Bounded s → (negsuc 1073741823 ≤ℤ (negsuc 1 *ℤ s)) × ((negsuc 1 *ℤ s) ≤ℤ pos 1073741824)
    minus s b = omega (arith, ints, b.low, b.high)

covers_own : (N X p q w : ℤ) → p <ℤ q → negsuc 1073741823 ≤ℤ w → w ≤ℤ pos 1073741824 → N ≡ K *ℤ pos 2 → X ≡ K *ℤ (p +ℤ q) -ℤ w → le_z (N *ℤ p) X ∧∧ lt_z X (N *ℤ q) ≡ true
covers_own N X p q w h i j n x =
    subst (λ (t : ℤ). le_z (t *ℤ p) X ∧∧ lt_z X (t *ℤ q) ≡ true) (sym n) (subst (λ (t : ℤ). le_z ((K *ℤ pos 2) *ℤ p) t ∧∧ lt_z t ((K *ℤ pos 2) *ℤ q) ≡ true) (sym x) (plain p q w h i j))
  where
    small : (a b c d : ℤ) → a ≤ℤ b → c <ℤ d → le_z a b ∧∧ lt_z c d ≡ true
    small a b c d h i = grind (arith, ints)

    low : (p q w : ℤ) → p <ℤ q → w ≤ℤ pos 1073741824 → ((K *ℤ pos 2) *ℤ p) ≤ℤ (K *ℤ (p +ℤ q) -ℤ w)
    low p q w h j = omega (arith, ints)

    high : (p q w : ℤ) → p <ℤ q → negsuc 1073741823 ≤ℤ w → (K *ℤ (p +ℤ q) -ℤ w) <ℤ ((K *ℤ pos 2) *ℤ q)
    high p q w h i = omega (arith, ints)

    plain : (p q w : ℤ) → p <ℤ q → negsuc 1073741823 ≤ℤ w → w ≤ℤ pos 1073741824 → le_z ((K *ℤ pos 2) *ℤ p) (K *ℤ (p +ℤ q) -ℤ w) ∧∧ lt_z (K *ℤ (p +ℤ q) -ℤ w) ((K *ℤ pos 2) *ℤ q) ≡ true
    plain p q w h i j = small ((K *ℤ pos 2) *ℤ p) (K *ℤ (p +ℤ q) -ℤ w) (K *ℤ (p +ℤ q) -ℤ w) ((K *ℤ pos 2) *ℤ q) (low p q w h j) (high p q w h i)

own_column : (e : Edge) (z : Point) (d k : ℤ) → SideOf e z d → Small e → pos 0 <ℤ run e → InColumn z k → cv e k ≡ true
own_column e z d k s m r c = sym (covers_is z k c e)
    ∙ covers_own z.n z.x e.p.x e.q.x (d *ℤ rise e) (from_strict_gap e.p.x e.q.x r) (twice_d d (rise e) s.which (rise_bound e m)).0 (twice_d d (rise e) s.which (rise_bound e m)).1 s.n_is s.x_is

half_low : (N X k sx w : ℤ) → negsuc 1073741823 ≤ℤ w → w ≤ℤ pos 1073741824 → N ≡ K *ℤ pos 2 → X ≡ K *ℤ sx -ℤ w → (N *ℤ k) ≤ℤ X → (pos 2 *ℤ k) ≤ℤ sx
half_low N X k sx w i j n x h = plain k sx w i j (subst (λ (t : ℤ). (t *ℤ k) ≤ℤ (K *ℤ sx -ℤ w)) n (subst (λ (t : ℤ). (N *ℤ k) ≤ℤ t) x h))
  where
    plain : (k sx w : ℤ) → negsuc 1073741823 ≤ℤ w → w ≤ℤ pos 1073741824 → ((K *ℤ pos 2) *ℤ k) ≤ℤ (K *ℤ sx -ℤ w) → (pos 2 *ℤ k) ≤ℤ sx
    plain k sx w i j h = omega (arith, ints)

half_high : (N X k sx w : ℤ) → negsuc 1073741823 ≤ℤ w → w ≤ℤ pos 1073741824 → N ≡ K *ℤ pos 2 → X ≡ K *ℤ sx -ℤ w → X <ℤ (N *ℤ (k +ℤ pos 1)) → sx ≤ℤ (pos 2 *ℤ (k +ℤ pos 1))
half_high N X k sx w i j n x h = plain k sx w i j (subst (λ (t : ℤ). (K *ℤ sx -ℤ w) <ℤ (t *ℤ (k +ℤ pos 1))) n (subst (λ (t : ℤ). t <ℤ (N *ℤ (k +ℤ pos 1))) x h))
  where
    plain : (k sx w : ℤ) → negsuc 1073741823 ≤ℤ w → w ≤ℤ pos 1073741824 → (K *ℤ sx -ℤ w) <ℤ ((K *ℤ pos 2) *ℤ (k +ℤ pos 1)) → sx ≤ℤ (pos 2 *ℤ (k +ℤ pos 1))
    plain k sx w i j h = omega (arith, ints)

-- ---- how far f is above e's midpoint: twice the run of f times that
abbrev pub over_mid : Edge → Edge → ℤ
over_mid f e = (rise f *ℤ (e.p.x +ℤ e.q.x) +ℤ off f *ℤ pos 2) -ℤ run f *ℤ (e.p.y +ℤ e.q.y)

mid_of : (sf rf of px py qx qy : ℤ) → ((qx -ℤ px) *ℤ sf -ℤ rf *ℤ (qy -ℤ py)) *ℤ (px +ℤ qx) +ℤ ((qx -ℤ px) *ℤ of -ℤ rf *ℤ (py *ℤ (qx -ℤ px) -ℤ px *ℤ (qy -ℤ py))) *ℤ pos 2
    ≡ (qx -ℤ px) *ℤ ((sf *ℤ (px +ℤ qx) +ℤ of *ℤ pos 2) -ℤ rf *ℤ (py +ℤ qy))
mid_of sf rf of px py qx qy = simp expand (omega (arith, linear))

mid_itself : (px py qx qy : ℤ) → ((qy -ℤ py) *ℤ (px +ℤ qx) +ℤ (py *ℤ (qx -ℤ px) -ℤ px *ℤ (qy -ℤ py)) *ℤ pos 2) -ℤ (qx -ℤ px) *ℤ (py +ℤ qy) ≡ pos 0
mid_itself px py qx qy = simp expand (omega (arith, linear))

pub pos_test : (r x : ℤ) → pos 0 <ℤ r → lt_z (pos 0) (r *ℤ x) ≡ lt_z (pos 0) x
pos_test r x h = by_sign x
    (λ s. low (r *ℤ x) x (below r x (mul_pos r (neg_ℤ x) h (negated x s))) s)
    (λ s. ap (λ (t : ℤ). lt_z (pos 0) (r *ℤ t)) s ∙ ap (lt_z (pos 0)) (none_right r) ∙ ap (lt_z (pos 0)) (sym s))
    (λ s. high (r *ℤ x) x (mul_pos r x h s) s)
  where
    below : (r x : ℤ) → pos 0 <ℤ (r *ℤ neg_ℤ x) → (r *ℤ x) <ℤ pos 0
    below r x h = omega (arith, linear, simp expand at h)

    low : (a b : ℤ) → a <ℤ pos 0 → b <ℤ pos 0 → lt_z (pos 0) a ≡ lt_z (pos 0) b
    low a b h i = grind (arith, ints)

    high : (a b : ℤ) → pos 0 <ℤ a → pos 0 <ℤ b → lt_z (pos 0) a ≡ lt_z (pos 0) b
    high a b h i = grind (arith, ints)

factor_zero : (r x : ℤ) → x ≡ pos 0 → r *ℤ x ≡ pos 0
factor_zero r x h = ap (λ (t : ℤ). r *ℤ t) h ∙ none_right r

record MidIn (e : Edge) (k : ℤ) : Type 0 where
  low : (pos 2 *ℤ k) ≤ℤ (e.p.x +ℤ e.q.x)
  high : (e.p.x +ℤ e.q.x) ≤ℤ (pos 2 *ℤ (k +ℤ pos 1))

mid_column : (e : Edge) (z : Point) (d k : ℤ) → SideOf e z d → Small e → InColumn z k → MidIn e k
mid_column e z d k s m c = record {
  low = half_low z.n z.x k (e.p.x +ℤ e.q.x) (d *ℤ rise e) (twice_d d (rise e) s.which (rise_bound e m)).0 (twice_d d (rise e) s.which (rise_bound e m)).1 s.n_is s.x_is c.low;
  high = half_high z.n z.x k (e.p.x +ℤ e.q.x) (d *ℤ rise e) (twice_d d (rise e) s.which (rise_bound e m)).0 (twice_d d (rise e) s.which (rise_bound e m)).1 s.n_is s.x_is c.high;
}

mid_apart : (e f : Edge) (k : ℤ) → MeetAtEnds e f → cv e k ≡ true → cv f k ≡ true → MidIn e k → ¬ (slope f e *ℤ (e.p.x +ℤ e.q.x) +ℤ gap f e *ℤ pos 2 ≡ pos 0)
mid_apart e f k m i j c = no_meet e f m (cv_run e k i) (cv_run f k j) (e.p.x +ℤ e.q.x) (pos 2) (record { lt = tt })
    (m1 e.p.x e.q.x (from_strict_gap e.p.x e.q.x (cv_run e k i))) (m2 e.p.x e.q.x (from_strict_gap e.p.x e.q.x (cv_run e k i)))
    (m3 f.p.x k (e.p.x +ℤ e.q.x) (cv_low f k j) c.low) (m4 f.q.x k (e.p.x +ℤ e.q.x) (cv_high f k j) c.high)
  where
    m1 : (p q : ℤ) → p <ℤ q → (pos 2 *ℤ p) <ℤ (p +ℤ q)
    m1 p q h = omega (arith, ints)

    m2 : (p q : ℤ) → p <ℤ q → (p +ℤ q) <ℤ (pos 2 *ℤ q)
    m2 p q h = omega (arith, ints)

    m3 : (p k s : ℤ) → p ≤ℤ k → (pos 2 *ℤ k) ≤ℤ s → (pos 2 *ℤ p) ≤ℤ s
    m3 p k s h i = omega (arith, ints)

    m4 : (q k s : ℤ) → k <ℤ q → s ≤ℤ (pos 2 *ℤ (k +ℤ pos 1)) → s ≤ℤ (pos 2 *ℤ q)
    m4 q k s h i = omega (arith, ints)

mid_is : (e f : Edge) → slope f e *ℤ (e.p.x +ℤ e.q.x) +ℤ gap f e *ℤ pos 2 ≡ run e *ℤ over_mid f e
mid_is e f = mid_of (rise f) (run f) (off f) e.p.x e.p.y e.q.x e.q.y

above_mid : (e f : Edge) (k : ℤ) → MeetAtEnds e f → cv e k ≡ true → cv f k ≡ true → MidIn e k → ab f e k ≡ lt_z (pos 0) (over_mid f e)
above_mid e f k m i j c = sign (slope f e) (gap f e) k (e.p.x +ℤ e.q.x) (pos 2) (no_root e f k m i j) c.low c.high (mid_apart e f k m i j c)
    ∙ ap (lt_z (pos 0)) (mid_is e f) ∙ pos_test (run e) (over_mid f e) (cv_run e k i)

-- ---- the side point is so near that no edge is passed
lift_at : (kk d se re sx sy sf rf of : ℤ) → (sf *ℤ (kk *ℤ sx -ℤ d *ℤ se) +ℤ of *ℤ (kk *ℤ pos 2)) -ℤ rf *ℤ (kk *ℤ sy +ℤ d *ℤ re)
    ≡ kk *ℤ ((sf *ℤ sx +ℤ of *ℤ pos 2) -ℤ rf *ℤ sy) -ℤ d *ℤ (sf *ℤ se +ℤ rf *ℤ re)
lift_at kk d se re sx sy sf rf of = simp expand (omega (arith, linear))

abbrev pub dot : Edge → Edge → ℤ
dot f e = rise f *ℤ rise e +ℤ run f *ℤ run e

pub lift_is : (e f : Edge) (z : Point) (d : ℤ) → SideOf e z d → lift f z ≡ K *ℤ over_mid f e -ℤ d *ℤ dot f e
lift_is e f z d s =
    ap (λ (t : ℤ). (rise f *ℤ t +ℤ off f *ℤ z.n) -ℤ run f *ℤ z.y) s.x_is
    ∙ ap (λ (t : ℤ). (rise f *ℤ (K *ℤ (e.p.x +ℤ e.q.x) -ℤ d *ℤ rise e) +ℤ off f *ℤ t) -ℤ run f *ℤ z.y) s.n_is
    ∙ ap (λ (t : ℤ). (rise f *ℤ (K *ℤ (e.p.x +ℤ e.q.x) -ℤ d *ℤ rise e) +ℤ off f *ℤ (K *ℤ pos 2)) -ℤ run f *ℤ t) s.y_is
    ∙ lift_at K d (rise e) (run e) (e.p.x +ℤ e.q.x) (e.p.y +ℤ e.q.y) (rise f) (run f) (off f)

product_bound : (a b : ℤ) → Bounded a → Bounded b → (negsuc 288230376151711743 ≤ℤ (a *ℤ b)) × ((a *ℤ b) ≤ℤ pos 288230376151711744)
product_bound a b h i = (low, high)
  where
    m : (x : ℤ) → Bounded x → pos 0 ≤ℤ (pos 536870912 -ℤ x)
    m x h = omega (arith, ints, h.low, h.high)

    p : (x : ℤ) → Bounded x → pos 0 ≤ℤ (pos 536870912 +ℤ x)
    p x h = omega (arith, ints, h.low, h.high)

    square : (x : ℤ) → x *ℤ pos 536870912 +ℤ neg_ℤ (x *ℤ pos 536870912) ≡ pos 0
    square x = omega (arith, ints)

    up : (c a b : ℤ) → pos 0 ≤ℤ ((c -ℤ a) *ℤ (c +ℤ b)) → pos 0 ≤ℤ ((c +ℤ a) *ℤ (c -ℤ b)) → (a *ℤ b) ≤ℤ (c *ℤ c)
    up c a b h i = omega (arith, linear, simp expand at h, simp expand at i)

    down : (c a b : ℤ) → pos 0 ≤ℤ ((c -ℤ a) *ℤ (c -ℤ b)) → pos 0 ≤ℤ ((c +ℤ a) *ℤ (c +ℤ b)) → neg_ℤ (c *ℤ c) ≤ℤ (a *ℤ b)
    down c a b h i = omega (arith, linear, simp expand at h, simp expand at i)

    high : (a *ℤ b) ≤ℤ pos 288230376151711744
    high = up (pos 536870912) a b (mul_nonneg (pos 536870912 -ℤ a) (pos 536870912 +ℤ b) (m a h) (p b i)) (mul_nonneg (pos 536870912 +ℤ a) (pos 536870912 -ℤ b) (p a h) (m b i))

    low : negsuc 288230376151711743 ≤ℤ (a *ℤ b)
    low = down (pos 536870912) a b (mul_nonneg (pos 536870912 -ℤ a) (pos 536870912 -ℤ b) (m a h) (m b i)) (mul_nonneg (pos 536870912 +ℤ a) (pos 536870912 +ℤ b) (p a h) (p b i))

-- K x and a number that is smaller than K in absolute value
pub near_test : (x w : ℤ) → ¬ (x ≡ pos 0) → negsuc 2305843009213693951 ≤ℤ w → w ≤ℤ pos 2305843009213693952 → lt_z (pos 0) (K *ℤ x -ℤ w) ≡ lt_z (pos 0) x
near_test x w n h i = by_sign x (λ s. low (K *ℤ x -ℤ w) x (l1 x w s h) s) (λ s. absurd (n s)) (λ s. high (K *ℤ x -ℤ w) x (l2 x w s i) s)
  where
    l1 : (x w : ℤ) → x <ℤ pos 0 → negsuc 2305843009213693951 ≤ℤ w → (K *ℤ x -ℤ w) <ℤ pos 0
    l1 x w s h = omega (arith, ints)

    l2 : (x w : ℤ) → pos 0 <ℤ x → w ≤ℤ pos 2305843009213693952 → pos 0 <ℤ (K *ℤ x -ℤ w)
    l2 x w s h = omega (arith, ints)

    low : (a b : ℤ) → a <ℤ pos 0 → b <ℤ pos 0 → lt_z (pos 0) a ≡ lt_z (pos 0) b
    low a b h i = grind (arith, ints)

    high : (a b : ℤ) → pos 0 <ℤ a → pos 0 <ℤ b → lt_z (pos 0) a ≡ lt_z (pos 0) b
    high a b h i = grind (arith, ints)

pub twice_big : (d s : ℤ) → (d ≡ pos 2) ⊎ (d ≡ negsuc 1) → negsuc 576460752303423487 ≤ℤ s → s ≤ℤ pos 576460752303423488 → (negsuc 2305843009213693951 ≤ℤ (d *ℤ s)) × ((d *ℤ s) ≤ℤ pos 2305843009213693952)
twice_big d s (inl h) l g = subst (λ (t : ℤ). (negsuc 2305843009213693951 ≤ℤ (t *ℤ s)) × ((t *ℤ s) ≤ℤ pos 2305843009213693952)) (sym h) (plus s l g)
  where
    plus : (s : ℤ) → negsuc 576460752303423487 ≤ℤ s → s ≤ℤ pos 576460752303423488 → (negsuc 2305843009213693951 ≤ℤ (pos 2 *ℤ s)) × ((pos 2 *ℤ s) ≤ℤ pos 2305843009213693952)
    plus s l g = omega (arith, ints)
twice_big d s (inr h) l g = subst (λ (t : ℤ). (negsuc 2305843009213693951 ≤ℤ (t *ℤ s)) × ((t *ℤ s) ≤ℤ pos 2305843009213693952)) (sym h) (minus s l g)
  where
    minus : (s : ℤ) → negsuc 576460752303423487 ≤ℤ s → s ≤ℤ pos 576460752303423488 → (negsuc 2305843009213693951 ≤ℤ (negsuc 1 *ℤ s)) × ((negsuc 1 *ℤ s) ≤ℤ pos 2305843009213693952)
    minus s l g = omega (arith, ints)

pub dot_bound : (e f : Edge) → Small e → Small f → (negsuc 576460752303423487 ≤ℤ dot f e) × (dot f e ≤ℤ pos 576460752303423488)
dot_bound e f m n = sum (rise f *ℤ rise e) (run f *ℤ run e) (product_bound (rise f) (rise e) (rise_bound f n) (rise_bound e m)) (product_bound (run f) (run e) (run_bound f n) (run_bound e m))
  where
    sum : (a b : ℤ) → (negsuc 288230376151711743 ≤ℤ a) × (a ≤ℤ pos 288230376151711744) → (negsuc 288230376151711743 ≤ℤ b) × (b ≤ℤ pos 288230376151711744)
        → (negsuc 576460752303423487 ≤ℤ (a +ℤ b)) × ((a +ℤ b) ≤ℤ pos 576460752303423488)
    sum a b h i = omega (arith, ints)

-- another edge that covers the column
above_side : (e f : Edge) (z : Point) (d k : ℤ) → SideOf e z d → Small e → Small f → MeetAtEnds e f → InColumn z k → cv e k ≡ true → cv f k ≡ true → above f z ≡ ab f e k
above_side e f z d k s m n t c i j =
    above_is f z ∙ ap (lt_z (pos 0)) (lift_is e f z d s)
    ∙ near_test (over_mid f e) (d *ℤ dot f e)
    (λ h. mid_apart e f k t i j (mid_column e z d k s m c) (mid_is e f ∙ factor_zero (run e) (over_mid f e) h))
    (twice_big d (dot f e) s.which (dot_bound e f m n).0 (dot_bound e f m n).1).0
    (twice_big d (dot f e) s.which (dot_bound e f m n).0 (dot_bound e f m n).1).1
    ∙ sym (above_mid e f k t i j (mid_column e z d k s m c))

-- e itself
own_lift : (e : Edge) (z : Point) (d : ℤ) → SideOf e z d → lift e z ≡ neg_ℤ (d *ℤ dot e e)
own_lift e z d s = lift_is e e z d s ∙ ap (λ (t : ℤ). K *ℤ t -ℤ d *ℤ dot e e) (mid_itself e.p.x e.p.y e.q.x e.q.y) ∙ plain (d *ℤ dot e e)
  where
    plain : (w : ℤ) → K *ℤ pos 0 -ℤ w ≡ neg_ℤ w
    plain w = omega (arith, ints)

square_nonneg : (x : ℤ) → pos 0 ≤ℤ (x *ℤ x)
square_nonneg (pos n) = omega (arith, ints)
square_nonneg (negsuc n) = omega (arith, ints)

dot_pos : (e : Edge) → pos 0 <ℤ run e → pos 0 <ℤ dot e e
dot_pos e r = sum (rise e *ℤ rise e) (run e *ℤ run e) (square_nonneg (rise e)) (mul_pos (run e) (run e) r r)
  where
    sum : (a b : ℤ) → pos 0 ≤ℤ a → pos 0 <ℤ b → pos 0 <ℤ (a +ℤ b)
    sum a b h i = omega (arith, ints)

own_left : (e : Edge) → pos 0 <ℤ run e → above e (left e) ≡ false
own_left e r = above_is e (left e) ∙ ap (lt_z (pos 0)) (own_lift e (left e) (pos 2) (left_side e)) ∙ down (dot e e) (dot_pos e r)
  where
    down : (w : ℤ) → pos 0 <ℤ w → lt_z (pos 0) (neg_ℤ (pos 2 *ℤ w)) ≡ false
    down w h = grind (arith, ints)

own_right : (e : Edge) → pos 0 <ℤ run e → above e (right e) ≡ true
own_right e r = above_is e (right e) ∙ ap (lt_z (pos 0)) (own_lift e (right e) (negsuc 1) (right_side e)) ∙ up (dot e e) (dot_pos e r)
  where
    up : (w : ℤ) → pos 0 <ℤ w → lt_z (pos 0) (neg_ℤ (negsuc 1 *ℤ w)) ≡ true
    up w h = grind (arith, ints)

-- ---- the parities at the two side points
abbrev pub AllSmall : List Edge → Type 0
AllSmall es = (e : Edge) → In e es → Small e

pub if_covered : (a c u v : Bool) → (c ≡ true → u ≡ v) → a ∧∧ (c ∧∧ u) ≡ a ∧∧ (c ∧∧ v)
if_covered a c u v h = grind arith

left_each : (e f : Edge) (k : ℤ) → Small e → Small f → (¬ (e ≡ f) → MeetAtEnds e f) → InColumn (left e) k → cv e k ≡ true → cv f k ≡ true → (t : Bool) → same e f ≡ t → above f (left e) ≡ ab f e k
left_each e f k m n o c i j true s = subst (λ z. above z (left e) ≡ ab z e k) (same_is e f s) (own_left e (cv_run e k i) ∙ sym (not_above_itself e k))
left_each e f k m n o c i j false s = above_side e f (left e) (pos 2) k (left_side e) m n (o (differ e f s)) c i j

pub at_left : (es : List Edge) → Noded es → AllSmall es → (a : Edge → Bool) (e : Edge) → In e es → (k : ℤ) → InColumn (left e) k → cv e k ≡ true → parity a es (left e) ≡ among a es e k
at_left es n o a e l k c i = par_cong (λ f. a f ∧∧ counted f (left e)) (λ f. a f ∧∧ (cv f k ∧∧ ab f e k)) es
    (λ f w. ap (λ (t : Bool). a f ∧∧ (t ∧∧ above f (left e))) (covers_is (left e) k c f)
    ∙ if_covered (a f) (cv f k) (above f (left e)) (ab f e k) (λ j. left_each e f k (o e l) (o f w) (n e f l w) c i j (same e f) refl))

own_term : (a c u v : Bool) → c ≡ true → u ≡ true → v ≡ false → a ∧∧ (c ∧∧ u) ≡ (a ∧∧ (c ∧∧ v)) ⊕ (true ∧∧ a)
own_term a c u v h i j = grind arith

other_term : (a c u v : Bool) → (c ≡ true → u ≡ v) → a ∧∧ (c ∧∧ u) ≡ (a ∧∧ (c ∧∧ v)) ⊕ (false ∧∧ a)
other_term a c u v h = grind arith

same_turned : (e f : Edge) → ¬ (e ≡ f) → same f e ≡ false
same_turned e f n = not_true (same f e) (λ h. n (sym (same_is f e h)))

right_each : (a : Edge → Bool) (e f : Edge) (k : ℤ) → Small e → Small f → (¬ (e ≡ f) → MeetAtEnds e f) → InColumn (right e) k → cv e k ≡ true → (t : Bool) → same e f ≡ t
    → a f ∧∧ (cv f k ∧∧ above f (right e)) ≡ (a f ∧∧ (cv f k ∧∧ ab f e k)) ⊕ (same f e ∧∧ a f)
right_each a e f k m n o c i true s = subst (λ z. a z ∧∧ (cv z k ∧∧ above z (right e)) ≡ (a z ∧∧ (cv z k ∧∧ ab z e k)) ⊕ (same z e ∧∧ a z)) (same_is e f s)
    (own_term (a e) (cv e k) (above e (right e)) (ab e e k) i (own_right e (cv_run e k i)) (not_above_itself e k)
    ∙ ap (λ (t : Bool). (a e ∧∧ (cv e k ∧∧ ab e e k)) ⊕ (t ∧∧ a e)) (sym (same_refl e)))
right_each a e f k m n o c i false s =
    other_term (a f) (cv f k) (above f (right e)) (ab f e k) (λ j. above_side e f (right e) (negsuc 1) k (right_side e) m n (o (differ e f s)) c i j)
    ∙ ap (λ (t : Bool). (a f ∧∧ (cv f k ∧∧ ab f e k)) ⊕ (t ∧∧ a f)) (sym (same_turned e f (differ e f s)))

pub at_right : (es : List Edge) → Noded es → AllSmall es → Distinct es → (a : Edge → Bool) (e : Edge) → In e es → (k : ℤ) → InColumn (right e) k → cv e k ≡ true → parity a es (right e) ≡ among a es e k ⊕ a e
at_right es n o d a e l k c i = par_cong (λ f. a f ∧∧ counted f (right e)) (λ f. (a f ∧∧ (cv f k ∧∧ ab f e k)) ⊕ (same f e ∧∧ a f)) es
    (λ f w. ap (λ (t : Bool). a f ∧∧ (t ∧∧ above f (right e))) (covers_is (right e) k c f)
    ∙ right_each a e f k (o e l) (o f w) (n e f l w) c i (same e f) refl)
    ∙ sym (par_xor (λ f. a f ∧∧ (cv f k ∧∧ ab f e k)) (λ f. same f e ∧∧ a f) es)
    ∙ ap (λ (t : Bool). among a es e k ⊕ t) (once es d a e l)

pub left_column : (e : Edge) (k : ℤ) → Small e → pos 0 <ℤ run e → InColumn (left e) k → cv e k ≡ true
left_column e k m r c = own_column e (left e) (pos 2) k (left_side e) m r c

pub right_column : (e : Edge) (k : ℤ) → Small e → pos 0 <ℤ run e → InColumn (right e) k → cv e k ≡ true
right_column e k m r c = own_column e (right e) (negsuc 1) k (right_side e) m r c
