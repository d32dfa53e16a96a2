-- The order of noded edges does not depend on where it is asked.
use mathlib.Core.Path.{◌≡◌, sym, ◌∙◌, ap, subst}
use native.Mathlib.Omega.{arith}
use lib.IntN.{ℤ, pos, ◌+ℤ◌, ◌-ℤ◌, ◌*ℤ◌, neg_ℤ}
use lib.Signed.{◌<ℤ◌, ◌≤ℤ◌}
use borrow.Author.Differences.{ints}
use Rattle.geom.specs.declared.point.Pt.{Pt}
use Rattle.geom.specs.declared.edge.Edge.{Edge}
use Rattle.geom.proofs.Integers.{expand, linear, mul_pos, mul_nonneg, by_sign, none_right}
use Rattle.geom.proofs.Numbers.{negated, weak, gap_is, le_lt, lt_le}
use Rattle.points_law.proofs.Choices.{run, rise, MeetAtEnds}
use Rattle.points_law.proofs.Meet.{off, slope, gap, no_meet}
use Rattle.points_law.proofs.Vertex.{over_pt}
use Rattle.label_sweep.specs.Status.{rise_over, IsUnder}

-- ---- D(x) = slope f e * x + gap f e
over_is : (re rf se sf py px qy qx x : ℤ) → (re *ℤ (qy *ℤ rf +ℤ (x -ℤ qx) *ℤ sf)) -ℤ (rf *ℤ (py *ℤ re +ℤ (x -ℤ px) *ℤ se))
    ≡ (re *ℤ sf -ℤ rf *ℤ se) *ℤ x +ℤ (re *ℤ (qy *ℤ rf -ℤ qx *ℤ sf) -ℤ rf *ℤ (py *ℤ re -ℤ px *ℤ se))
over_is re rf se sf py px qy qx x = simp expand (omega (arith, linear))

pub rise_is : (f e : Edge) (x : ℤ) → rise_over f e x ≡ slope f e *ℤ x +ℤ gap f e
rise_is f e x = over_is (run e) (run f) (rise e) (rise f) e.p.y e.p.x f.p.y f.p.x x

-- ---- a line that is above 0 at c and below 0 at x has a root strictly between
root_value : (A B c x : ℤ) → A *ℤ (x *ℤ (A *ℤ c +ℤ B) -ℤ c *ℤ (A *ℤ x +ℤ B)) +ℤ B *ℤ ((A *ℤ c +ℤ B) -ℤ (A *ℤ x +ℤ B)) ≡ pos 0
root_value A B c x = simp expand (omega (arith, linear))

drop_pos : (u w : ℤ) → pos 0 <ℤ u → w <ℤ pos 0 → pos 0 <ℤ (u -ℤ w)
drop_pos u w h i = omega (arith, ints)

-- the place (x u - c w) / (u - w), with u > 0 > w, is strictly between c and x
between_low : (u w c x l : ℤ) → pos 0 <ℤ u → w <ℤ pos 0 → l ≤ℤ c → l <ℤ x → ((u -ℤ w) *ℤ l) <ℤ (x *ℤ u -ℤ c *ℤ w)
between_low u w c x l h i j k =
    let s = simp expand at (mul_pos u (x -ℤ l) h (omega (arith, linear))) in
    let t = simp expand at (mul_nonneg (neg_ℤ w) (c -ℤ l) (omega (arith, ints, negated w i)) (omega (arith, linear))) in
    simp expand (omega (arith, linear))

between_low' : (u w c x l : ℤ) → pos 0 <ℤ u → w <ℤ pos 0 → l <ℤ c → l ≤ℤ x → ((u -ℤ w) *ℤ l) <ℤ (x *ℤ u -ℤ c *ℤ w)
between_low' u w c x l h i j k =
    let s = simp expand at (mul_nonneg u (x -ℤ l) (omega (arith, linear)) (omega (arith, linear))) in
    let t = simp expand at (mul_pos (neg_ℤ w) (c -ℤ l) (negated w i) (omega (arith, linear))) in
    simp expand (omega (arith, linear))

between_high : (u w c x l : ℤ) → pos 0 <ℤ u → w <ℤ pos 0 → c ≤ℤ l → x <ℤ l → (x *ℤ u -ℤ c *ℤ w) <ℤ ((u -ℤ w) *ℤ l)
between_high u w c x l h i j k =
    let s = simp expand at (mul_pos u (l -ℤ x) h (omega (arith, linear))) in
    let t = simp expand at (mul_nonneg (neg_ℤ w) (l -ℤ c) (omega (arith, ints, negated w i)) (omega (arith, linear))) in
    simp expand (omega (arith, linear))

between_high' : (u w c x l : ℤ) → pos 0 <ℤ u → w <ℤ pos 0 → c <ℤ l → x ≤ℤ l → (x *ℤ u -ℤ c *ℤ w) <ℤ ((u -ℤ w) *ℤ l)
between_high' u w c x l h i j k =
    let s = simp expand at (mul_nonneg u (l -ℤ x) (omega (arith, linear)) (omega (arith, linear))) in
    let t = simp expand at (mul_pos (neg_ℤ w) (l -ℤ c) (negated w i) (omega (arith, linear))) in
    simp expand (omega (arith, linear))

-- x is a whole x of both edges
pub record Common (e f : Edge) (x : ℤ) : Type 0 where
  pub e_low : e.p.x ≤ℤ x
  pub e_high : x ≤ℤ e.q.x
  pub f_low : f.p.x ≤ℤ x
  pub f_high : x ≤ℤ f.q.x

-- strictly inside a range whose ends both are within e's: the four bounds that `no_meet` asks for
no_change : (e f : Edge) → MeetAtEnds e f → pos 0 <ℤ run e → pos 0 <ℤ run f → (c x : ℤ) → Common e f c → Common e f x
    → pos 0 <ℤ (slope f e *ℤ c +ℤ gap f e) → (slope f e *ℤ x +ℤ gap f e) <ℤ pos 0 → ⊥
no_change e f m re rf c x p q h i = by_sign (x -ℤ c)
    (λ s. root (u_low e.p.x (less s) q.e_low) (u_high e.q.x (less s) p.e_high) (weak _ _ (u_low f.p.x (less s) q.f_low)) (weak _ _ (u_high f.q.x (less s) p.f_high)))
    (λ s. clash (slope f e *ℤ c +ℤ gap f e) (slope f e *ℤ x +ℤ gap f e) h i (ap (λ (t : ℤ). slope f e *ℤ t +ℤ gap f e) (equal s)))
    (λ s. root (d_low e.p.x (more s) p.e_low) (d_high e.q.x (more s) q.e_high) (weak _ _ (d_low f.p.x (more s) p.f_low)) (weak _ _ (d_high f.q.x (more s) q.f_high)))
  where
    u : ℤ
    u = slope f e *ℤ c +ℤ gap f e

    w : ℤ
    w = slope f e *ℤ x +ℤ gap f e

    N : ℤ
    N = (slope f e *ℤ c +ℤ gap f e) -ℤ (slope f e *ℤ x +ℤ gap f e)

    X : ℤ
    X = x *ℤ (slope f e *ℤ c +ℤ gap f e) -ℤ c *ℤ (slope f e *ℤ x +ℤ gap f e)

    clash : (a b : ℤ) → pos 0 <ℤ a → b <ℤ pos 0 → a ≡ b → ⊥
    clash a b h i e = omega (arith, ints)

    equal : (x -ℤ c) ≡ pos 0 → c ≡ x
    equal s = omega (arith, ints)

    less : (x -ℤ c) <ℤ pos 0 → x <ℤ c
    less s = omega (arith, ints)

    more : pos 0 <ℤ (x -ℤ c) → c <ℤ x
    more s = omega (arith, ints)

    u_low : (l : ℤ) → x <ℤ c → l ≤ℤ x → (((slope f e *ℤ c +ℤ gap f e) -ℤ (slope f e *ℤ x +ℤ gap f e)) *ℤ l) <ℤ (x *ℤ (slope f e *ℤ c +ℤ gap f e) -ℤ c *ℤ (slope f e *ℤ x +ℤ gap f e))
    u_low l s k = between_low' (slope f e *ℤ c +ℤ gap f e) (slope f e *ℤ x +ℤ gap f e) c x l h i (le_lt l x c k s) k

    u_high : (l : ℤ) → x <ℤ c → c ≤ℤ l → (x *ℤ (slope f e *ℤ c +ℤ gap f e) -ℤ c *ℤ (slope f e *ℤ x +ℤ gap f e)) <ℤ (((slope f e *ℤ c +ℤ gap f e) -ℤ (slope f e *ℤ x +ℤ gap f e)) *ℤ l)
    u_high l s k = between_high (slope f e *ℤ c +ℤ gap f e) (slope f e *ℤ x +ℤ gap f e) c x l h i k (lt_le x c l s k)

    d_low : (l : ℤ) → c <ℤ x → l ≤ℤ c → (((slope f e *ℤ c +ℤ gap f e) -ℤ (slope f e *ℤ x +ℤ gap f e)) *ℤ l) <ℤ (x *ℤ (slope f e *ℤ c +ℤ gap f e) -ℤ c *ℤ (slope f e *ℤ x +ℤ gap f e))
    d_low l s k = between_low (slope f e *ℤ c +ℤ gap f e) (slope f e *ℤ x +ℤ gap f e) c x l h i k (le_lt l c x k s)

    d_high : (l : ℤ) → c <ℤ x → x ≤ℤ l → (x *ℤ (slope f e *ℤ c +ℤ gap f e) -ℤ c *ℤ (slope f e *ℤ x +ℤ gap f e)) <ℤ (((slope f e *ℤ c +ℤ gap f e) -ℤ (slope f e *ℤ x +ℤ gap f e)) *ℤ l)
    d_high l s k = between_high' (slope f e *ℤ c +ℤ gap f e) (slope f e *ℤ x +ℤ gap f e) c x l h i (lt_le c x l s k) k

    root : (((slope f e *ℤ c +ℤ gap f e) -ℤ (slope f e *ℤ x +ℤ gap f e)) *ℤ e.p.x) <ℤ (x *ℤ (slope f e *ℤ c +ℤ gap f e) -ℤ c *ℤ (slope f e *ℤ x +ℤ gap f e))
        → (x *ℤ (slope f e *ℤ c +ℤ gap f e) -ℤ c *ℤ (slope f e *ℤ x +ℤ gap f e)) <ℤ (((slope f e *ℤ c +ℤ gap f e) -ℤ (slope f e *ℤ x +ℤ gap f e)) *ℤ e.q.x)
        → (((slope f e *ℤ c +ℤ gap f e) -ℤ (slope f e *ℤ x +ℤ gap f e)) *ℤ f.p.x) ≤ℤ (x *ℤ (slope f e *ℤ c +ℤ gap f e) -ℤ c *ℤ (slope f e *ℤ x +ℤ gap f e))
        → (x *ℤ (slope f e *ℤ c +ℤ gap f e) -ℤ c *ℤ (slope f e *ℤ x +ℤ gap f e)) ≤ℤ (((slope f e *ℤ c +ℤ gap f e) -ℤ (slope f e *ℤ x +ℤ gap f e)) *ℤ f.q.x)
        → ⊥
    root a b k l = no_meet e f m re rf (x *ℤ (slope f e *ℤ c +ℤ gap f e) -ℤ c *ℤ (slope f e *ℤ x +ℤ gap f e)) ((slope f e *ℤ c +ℤ gap f e) -ℤ (slope f e *ℤ x +ℤ gap f e))
        (drop_pos (slope f e *ℤ c +ℤ gap f e) (slope f e *ℤ x +ℤ gap f e) h i) a b k l (root_value (slope f e) (gap f e) c x)

not_below : (x : ℤ) → (x <ℤ pos 0 → ⊥) → pos 0 ≤ℤ x
not_below x n = by_sign x (λ h. absurd (n h)) (λ h. omega (arith, ints)) (λ h. omega (arith, ints))

-- where f is above e at one common place, e is nowhere above f
pub stays_under : (e f : Edge) → MeetAtEnds e f → pos 0 <ℤ run e → pos 0 <ℤ run f → (c : ℤ) → Common e f c → pos 0 <ℤ (slope f e *ℤ c +ℤ gap f e) → IsUnder e f
stays_under e f m re rf c p h = λ x a b k l. subst (λ (t : ℤ). pos 0 ≤ℤ t) (sym (rise_is f e x))
    (not_below (slope f e *ℤ x +ℤ gap f e) (no_change e f m re rf c x p (record { e_low = a; e_high = b; f_low = k; f_high = l }) h))

-- ---- v beside an edge, by the sign of over_pt e v = - side e.p e.q v: above 0 where e is above v
lifts : (re rf se sf oe of x y : ℤ) → re *ℤ ((sf *ℤ x +ℤ of) -ℤ rf *ℤ y) ≡ ((re *ℤ sf -ℤ rf *ℤ se) *ℤ x +ℤ (re *ℤ of -ℤ rf *ℤ oe)) +ℤ rf *ℤ ((se *ℤ x +ℤ oe) -ℤ re *ℤ y)
lifts re rf se sf oe of x y = simp expand (omega (arith, linear))

pub over_both : (e f : Edge) (v : Pt) → run e *ℤ over_pt f v ≡ rise_over f e v.x +ℤ run f *ℤ over_pt e v
over_both e f v = lifts (run e) (run f) (rise e) (rise f) (off e) (off f) v.x v.y ∙ ap (λ (t : ℤ). t +ℤ run f *ℤ over_pt e v) (sym (rise_is f e v.x))

neg_both : (r a d s b : ℤ) → pos 0 <ℤ r → pos 0 <ℤ s → pos 0 ≤ℤ d → r *ℤ a ≡ d +ℤ s *ℤ b → a <ℤ pos 0 → b <ℤ pos 0
neg_both r a d s b h i j e k = by_sign b (λ t. t) (λ t. absurd (none t)) (λ t. absurd (some t))
  where
    below : (r *ℤ neg_ℤ a) ≡ neg_ℤ (r *ℤ a)
    below = simp expand (omega (arith, linear))

    left : (r *ℤ a) <ℤ pos 0
    left = let t = mul_pos r (neg_ℤ a) h (negated a k) in omega (arith, linear, below)

    none : b ≡ pos 0 → ⊥
    none t = let z : s *ℤ b ≡ pos 0 = ap (λ (t : ℤ). s *ℤ t) t ∙ none_right s in omega (arith, linear, left, e)

    some : pos 0 <ℤ b → ⊥
    some t = let z = mul_pos s b i t in omega (arith, linear, left, e)

pub pos_both : (r a d s b : ℤ) → pos 0 <ℤ r → pos 0 <ℤ s → pos 0 ≤ℤ d → r *ℤ a ≡ d +ℤ s *ℤ b → pos 0 <ℤ b → pos 0 <ℤ a
pos_both r a d s b h i j e k = by_sign a (λ t. absurd (less (neg_both r a d s b h i j e t) k)) (λ t. absurd (none t)) (λ t. t)
  where
    less : b <ℤ pos 0 → pos 0 <ℤ b → ⊥
    less h i = omega (arith, ints)

    none : a ≡ pos 0 → ⊥
    none t = let z : r *ℤ a ≡ pos 0 = ap (λ (t : ℤ). r *ℤ t) t ∙ none_right r in let y = mul_pos s b i k in omega (arith, linear, e)

-- what is under an edge that is below v is below v; what is over an edge that is above v is above v
pub below_too : (e f : Edge) (v : Pt) → pos 0 <ℤ run e → pos 0 <ℤ run f → Common e f v.x → IsUnder e f → over_pt f v <ℤ pos 0 → over_pt e v <ℤ pos 0
below_too e f v re rf p u h = neg_both (run e) (over_pt f v) (rise_over f e v.x) (run f) (over_pt e v) re rf (u v.x p.e_low p.e_high p.f_low p.f_high) (over_both e f v) h

pub above_too : (e f : Edge) (v : Pt) → pos 0 <ℤ run e → pos 0 <ℤ run f → Common e f v.x → IsUnder e f → pos 0 <ℤ over_pt e v → pos 0 <ℤ over_pt f v
above_too e f v re rf p u h = pos_both (run e) (over_pt f v) (rise_over f e v.x) (run f) (over_pt e v) re rf (u v.x p.e_low p.e_high p.f_low p.f_high) (over_both e f v) h

-- ---- an edge that begins at v beside one that is below or above v
at_start : (re rf se sf of px py : ℤ) → (re *ℤ sf -ℤ rf *ℤ se) *ℤ px +ℤ (re *ℤ of -ℤ rf *ℤ (py *ℤ re -ℤ px *ℤ se)) ≡ re *ℤ ((sf *ℤ px +ℤ of) -ℤ rf *ℤ py)
at_start re rf se sf of px py = simp expand (omega (arith, linear))

at_start' : (re rf se sf of px py : ℤ) → (rf *ℤ se -ℤ re *ℤ sf) *ℤ px +ℤ (rf *ℤ (py *ℤ re -ℤ px *ℤ se) -ℤ re *ℤ of) ≡ re *ℤ neg_ℤ ((sf *ℤ px +ℤ of) -ℤ rf *ℤ py)
at_start' re rf se sf of px py = simp expand (omega (arith, linear))

pub under_new : (g e : Edge) → MeetAtEnds g e → pos 0 <ℤ run g → pos 0 <ℤ run e → Common g e e.p.x → over_pt g e.p <ℤ pos 0 → IsUnder g e
under_new g e m rg re p h = stays_under g e m rg re e.p.x p
    (subst (λ (t : ℤ). pos 0 <ℤ t) (sym (at_start' (run e) (run g) (rise e) (rise g) (off g) e.p.x e.p.y)) (mul_pos (run e) (neg_ℤ (over_pt g e.p)) re (negated (over_pt g e.p) h)))

pub over_new : (g e : Edge) → MeetAtEnds e g → pos 0 <ℤ run g → pos 0 <ℤ run e → Common e g e.p.x → pos 0 <ℤ over_pt g e.p → IsUnder e g
over_new g e m rg re p h = stays_under e g m re rg e.p.x p
    (subst (λ (t : ℤ). pos 0 <ℤ t) (sym (at_start (run e) (run g) (rise e) (rise g) (off g) e.p.x e.p.y)) (mul_pos (run e) (over_pt g e.p) re h))

-- ---- two edges that begin at one point, by their turn
from_start : (re rf se sf px py x : ℤ) → (re *ℤ (py *ℤ rf +ℤ (x -ℤ px) *ℤ sf)) -ℤ (rf *ℤ (py *ℤ re +ℤ (x -ℤ px) *ℤ se)) ≡ (x -ℤ px) *ℤ (re *ℤ sf -ℤ rf *ℤ se)
from_start re rf se sf px py x = simp expand (omega (arith, linear))

pub by_turn : (e f : Edge) → e.p ≡ f.p → pos 0 ≤ℤ slope f e → IsUnder e f
by_turn e f h s = λ x a b k l. subst (λ (v : Pt). pos 0 ≤ℤ ((run e *ℤ (v.y *ℤ run f +ℤ (x -ℤ v.x) *ℤ rise f)) -ℤ (run f *ℤ (e.p.y *ℤ run e +ℤ (x -ℤ e.p.x) *ℤ rise e)))) h
    (subst (λ (t : ℤ). pos 0 ≤ℤ t) (sym (from_start (run e) (run f) (rise e) (rise f) e.p.x e.p.y x)) (mul_nonneg (x -ℤ e.p.x) (slope f e) (gap_is e.p.x x a) s))
