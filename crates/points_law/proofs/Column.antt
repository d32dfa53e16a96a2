-- The order of noded edges in the column from k to k + 1, and how it goes over to the next column.
use mathlib.Core.Path.{◌≡◌, refl, sym, ◌∙◌, ap, subst}
use mathlib.Core.Bool.{Bool, true, false, false≢true}
use mathlib.Core.List.{List}
use mathlib.Core.Logic.{inl, inr}
use Prim.Native.Nat.{ℕ, zero, suc}
use native.Mathlib.Omega.{arith}
use lib.IntN.{ℤ, pos, nat_abs, ◌+ℤ◌, ◌-ℤ◌, ◌*ℤ◌, neg_ℤ}
use lib.Signed.{◌<ℤ◌, ◌≤ℤ◌, lt_z, le_z}
use borrow.Author.Differences.{ints}
use Rattle.geom.specs.declared.point.Pt.{Pt}
use Rattle.geom.specs.declared.edge.Edge.{Edge}
use Rattle.geom.proofs.Lists.{In}
use Rattle.points_law.proofs.Choices.{◌⊕◌, ◌∧∧◌, par, run, rise, Ordered, MeetAtEnds, Noded, eq_z, Even}
use Rattle.geom.proofs.Integers.{expand, linear, scale_le, scale_lt, mul_pos, by_sign, none_right}
use Rattle.geom.proofs.Numbers.{weak, once_from, from_strict_gap, no_gap_is, strict_gap_is, from_no_gap, le_lt, lt_le}
use Rattle.geom.proofs.Tests.{le_z_told, lt_z_told}
use Rattle.points_law.proofs.Sign.{NoRoot, twice, not_zero, sign}
use Rattle.points_law.proofs.Meet.{off, slope, gap, no_meet, no_cross}
use Rattle.points_law.proofs.Sums.{par_cong, par_xor}
use Rattle.points_law.proofs.Even.{and_left, and_right, same, same_is, same_refl, even_sum, eq_z_same}

-- e covers the column from k to k + 1
abbrev pub cv : Edge → ℤ → Bool
cv e k = le_z e.p.x k ∧∧ lt_z k e.q.x

-- f is above e in that column, where both cover it
abbrev pub ab : Edge → Edge → ℤ → Bool
ab f e k = lt_z (pos 0) (twice (slope f e) (gap f e) k)

pub cv_low : (e : Edge) (k : ℤ) → cv e k ≡ true → e.p.x ≤ℤ k
cv_low e k h = le_z_told e.p.x k (and_left (le_z e.p.x k) (lt_z k e.q.x) h)

pub cv_high : (e : Edge) (k : ℤ) → cv e k ≡ true → k <ℤ e.q.x
cv_high e k h = lt_z_told k e.q.x (and_right (le_z e.p.x k) (lt_z k e.q.x) h)

pub cv_run : (e : Edge) (k : ℤ) → cv e k ≡ true → pos 0 <ℤ run e
cv_run e k h = omega (arith, ints, cv_low e k h, cv_high e k h)

pub up_to : (k q : ℤ) → k <ℤ q → (k +ℤ pos 1) ≤ℤ q
up_to k q h = omega (arith, ints)

pub no_root : (e f : Edge) (k : ℤ) → MeetAtEnds e f → cv e k ≡ true → cv f k ≡ true → NoRoot (slope f e) (gap f e) k
no_root e f k m i j X N n l r =
    no_meet e f m (cv_run e k i) (cv_run f k j) X N n
    (le_lt (N *ℤ e.p.x) (N *ℤ k) X (scale_le e.p.x k N (cv_low e k i) (weak (pos 0) N n)) l)
    (lt_le X (N *ℤ (k +ℤ pos 1)) (N *ℤ e.q.x) r (scale_le (k +ℤ pos 1) e.q.x N (up_to k e.q.x (cv_high e k i)) (weak (pos 0) N n)))
    (weak (N *ℤ f.p.x) X (le_lt (N *ℤ f.p.x) (N *ℤ k) X (scale_le f.p.x k N (cv_low f k j) (weak (pos 0) N n)) l))
    (weak X (N *ℤ f.q.x) (lt_le X (N *ℤ (k +ℤ pos 1)) (N *ℤ f.q.x) r (scale_le (k +ℤ pos 1) f.q.x N (up_to k f.q.x (cv_high f k j)) (weak (pos 0) N n))))

-- ---- of two edges one is above the other
turn_twice : (re rf se sf oe of k : ℤ) → twice (rf *ℤ se -ℤ re *ℤ sf) (rf *ℤ oe -ℤ re *ℤ of) k ≡ neg_ℤ (twice (re *ℤ sf -ℤ rf *ℤ se) (re *ℤ of -ℤ rf *ℤ oe) k)
turn_twice re rf se sf oe of k = simp expand (omega (arith, linear))

either : (x : ℤ) → ¬ (x ≡ pos 0) → lt_z (pos 0) x ⊕ lt_z (pos 0) (neg_ℤ x) ≡ true
either x n = grind (arith, ints)

pub one_above : (e f : Edge) (k : ℤ) → MeetAtEnds e f → cv e k ≡ true → cv f k ≡ true → ab f e k ⊕ ab e f k ≡ true
one_above e f k m i j =
    ap (λ (t : ℤ). lt_z (pos 0) (twice (slope f e) (gap f e) k) ⊕ lt_z (pos 0) t) (turn_twice (run e) (run f) (rise e) (rise f) (off e) (off f) k)
    ∙ either (twice (slope f e) (gap f e) k) (not_zero (slope f e) (gap f e) k (no_root e f k m i j))

same_twice : (r s o k : ℤ) → twice (r *ℤ s -ℤ r *ℤ s) (r *ℤ o -ℤ r *ℤ o) k ≡ pos 0
same_twice r s o k = simp expand (omega (arith, linear))

pub not_above_itself : (e : Edge) (k : ℤ) → ab e e k ≡ false
not_above_itself e k = ap (λ (t : ℤ). lt_z (pos 0) t) (same_twice (run e) (rise e) (off e) k)

-- ---- at the column's border
-- v is above e, at x = c
abbrev pub top : Edge → ℤ → Pt → Bool
top e c v = eq_z v.x c ∧∧ lt_z (off e +ℤ c *ℤ rise e) (run e *ℤ v.y)

pub parts : (p q k : ℤ) → p <ℤ q → (le_z p k ∧∧ lt_z k q) ⊕ (le_z p (k +ℤ pos 1) ∧∧ lt_z (k +ℤ pos 1) q) ≡ eq_z p (k +ℤ pos 1) ⊕ eq_z q (k +ℤ pos 1)
parts p q k h = grind (arith, ints)

pub joined : (u1 u2 u3 u4 x1 x2 x3 x4 g : Bool) → (u1 ≡ true → x1 ≡ g) → (u2 ≡ true → x2 ≡ g) → (u3 ≡ true → x3 ≡ g) → (u4 ≡ true → x4 ≡ g)
    → u1 ⊕ u2 ≡ u3 ⊕ u4 → (u1 ∧∧ x1) ⊕ (u2 ∧∧ x2) ≡ (u3 ∧∧ x3) ⊕ (u4 ∧∧ x4)
joined u1 u2 u3 u4 x1 x2 x3 x4 g h1 h2 h3 h4 e = grind arith

pub scaled_test : (r a b : ℤ) → pos 0 <ℤ r → lt_z a b ≡ lt_z (pos 0) (r *ℤ (b -ℤ a))
scaled_test r a b h = by_sign (b -ℤ a)
    (λ k. less a b (r *ℤ (b -ℤ a)) k (flip (r *ℤ (b -ℤ a)) (r *ℤ (a -ℤ b)) (opposite r a b) (mul_pos r (a -ℤ b) h (other a b k))))
    (λ k. same_case a b (r *ℤ (b -ℤ a)) k (ap (λ (t : ℤ). r *ℤ t) k ∙ none_right r))
    (λ k. more a b (r *ℤ (b -ℤ a)) k (mul_pos r (b -ℤ a) h k))
  where
    opposite : (r a b : ℤ) → r *ℤ (b -ℤ a) ≡ neg_ℤ (r *ℤ (a -ℤ b))
    opposite r a b = simp expand (omega (arith, linear))

    flip : (x y : ℤ) → x ≡ neg_ℤ y → pos 0 <ℤ y → x <ℤ pos 0
    flip x y e h = omega (arith, ints)

    other : (a b : ℤ) → (b -ℤ a) <ℤ pos 0 → pos 0 <ℤ (a -ℤ b)
    other a b h = omega (arith, ints)

    less : (a b x : ℤ) → (b -ℤ a) <ℤ pos 0 → x <ℤ pos 0 → lt_z a b ≡ lt_z (pos 0) x
    less a b x h k = grind (arith, ints)

    same_case : (a b x : ℤ) → b -ℤ a ≡ pos 0 → x ≡ pos 0 → lt_z a b ≡ lt_z (pos 0) x
    same_case a b x h k = grind (arith, ints)

    more : (a b x : ℤ) → pos 0 <ℤ (b -ℤ a) → pos 0 <ℤ x → lt_z a b ≡ lt_z (pos 0) x
    more a b x h k = grind (arith, ints)

at_start : (re rf se sf oe px py : ℤ) → (re *ℤ sf -ℤ rf *ℤ se) *ℤ px +ℤ (re *ℤ (py *ℤ rf -ℤ px *ℤ sf) -ℤ rf *ℤ oe) *ℤ pos 1 ≡ rf *ℤ (re *ℤ py -ℤ (oe +ℤ px *ℤ se))
at_start re rf se sf oe px py = simp expand (omega (arith, linear))

at_stop : (re se oe px py qx qy : ℤ) → (re *ℤ (qy -ℤ py) -ℤ (qx -ℤ px) *ℤ se) *ℤ qx +ℤ (re *ℤ (py *ℤ (qx -ℤ px) -ℤ px *ℤ (qy -ℤ py)) -ℤ (qx -ℤ px) *ℤ oe) *ℤ pos 1 ≡ (qx -ℤ px) *ℤ (re *ℤ qy -ℤ (oe +ℤ qx *ℤ se))
at_stop re se oe px py qx qy = simp expand (omega (arith, linear))

abbrev height : Edge → Edge → ℤ → Bool
height f e c = lt_z (pos 0) (slope f e *ℤ c +ℤ gap f e *ℤ pos 1)

pub start_test : (f e : Edge) (c : ℤ) → pos 0 <ℤ run f → f.p.x ≡ c → lt_z (off e +ℤ c *ℤ rise e) (run e *ℤ f.p.y) ≡ height f e c
start_test f e c r h = scaled_test (run f) (off e +ℤ c *ℤ rise e) (run e *ℤ f.p.y) r
    ∙ ap (λ (t : ℤ). lt_z (pos 0) (run f *ℤ (run e *ℤ f.p.y -ℤ (off e +ℤ t *ℤ rise e)))) (sym h)
    ∙ ap (λ (t : ℤ). lt_z (pos 0) t) (sym (at_start (run e) (run f) (rise e) (rise f) (off e) f.p.x f.p.y))
    ∙ ap (λ (t : ℤ). height f e t) h

stop_test : (f e : Edge) (c : ℤ) → pos 0 <ℤ run f → f.q.x ≡ c → lt_z (off e +ℤ c *ℤ rise e) (run e *ℤ f.q.y) ≡ height f e c
stop_test f e c r h = scaled_test (run f) (off e +ℤ c *ℤ rise e) (run e *ℤ f.q.y) r
    ∙ ap (λ (t : ℤ). lt_z (pos 0) (run f *ℤ (run e *ℤ f.q.y -ℤ (off e +ℤ t *ℤ rise e)))) (sym h)
    ∙ ap (λ (t : ℤ). lt_z (pos 0) t) (sym (at_stop (run e) (rise e) (off e) f.p.x f.p.y f.q.x f.q.y))
    ∙ ap (λ (t : ℤ). height f e t) h

-- ---- one step
-- f is neither e nor vertical, and its columns reach c = k + 1, strictly inside e's
not_level : (e f : Edge) (c : ℤ) → MeetAtEnds e f → pos 0 <ℤ run e → pos 0 <ℤ run f → e.p.x <ℤ c → c <ℤ e.q.x → f.p.x ≤ℤ c → c ≤ℤ f.q.x → ¬ (slope f e *ℤ c +ℤ gap f e *ℤ pos 1 ≡ pos 0)
not_level e f c m re rf i j k l = no_meet e f m re rf c (pos 1) (record { lt = tt }) (o1 e.p.x c i) (o2 c e.q.x j) (once_from f.p.x c k) (o4 c f.q.x l)
  where
    o1 : (a b : ℤ) → a <ℤ b → (pos 1 *ℤ a) <ℤ b
    o1 a b h = omega (arith, ints)

    o2 : (a b : ℤ) → a <ℤ b → a <ℤ (pos 1 *ℤ b)
    o2 a b h = omega (arith, ints)

    o4 : (a b : ℤ) → a ≤ℤ b → a ≤ℤ (pos 1 *ℤ b)
    o4 a b h = omega (arith, ints)

one_right : (k : ℤ) → (pos 1 *ℤ k) ≤ℤ (k +ℤ pos 1)
one_right k = omega (arith, ints)

one_same : (k : ℤ) → (k +ℤ pos 1) ≤ℤ (pos 1 *ℤ (k +ℤ pos 1))
one_same k = omega (arith, ints)

one_here : (k : ℤ) → (pos 1 *ℤ k) ≤ℤ k
one_here k = omega (arith, ints)

pub one_next : (k : ℤ) → k ≤ℤ (pos 1 *ℤ (k +ℤ pos 1))
one_next k = omega (arith, ints)

sloping : (e f : Edge) (k : ℤ) → MeetAtEnds e f → cv e k ≡ true → cv e (k +ℤ pos 1) ≡ true → pos 0 <ℤ run f
    → (cv f k ∧∧ ab f e k) ⊕ (cv f (k +ℤ pos 1) ∧∧ ab f e (k +ℤ pos 1)) ≡ top e (k +ℤ pos 1) f.p ⊕ top e (k +ℤ pos 1) f.q
sloping e f k m i j rf =
    joined (cv f k) (cv f (k +ℤ pos 1)) (eq_z f.p.x (k +ℤ pos 1)) (eq_z f.q.x (k +ℤ pos 1)) (ab f e k) (ab f e (k +ℤ pos 1))
    (lt_z (off e +ℤ (k +ℤ pos 1) *ℤ rise e) (run e *ℤ f.p.y)) (lt_z (off e +ℤ (k +ℤ pos 1) *ℤ rise e) (run e *ℤ f.q.y)) (height f e (k +ℤ pos 1))
    (λ h. sign (slope f e) (gap f e) k (k +ℤ pos 1) (pos 1) (no_root e f k m i h) (one_right k) (one_same k)
    (level (weak f.p.x (k +ℤ pos 1) (low_next f.p.x k (cv_low f k h))) (up_to k f.q.x (cv_high f k h))))
    (λ h. sign (slope f e) (gap f e) (k +ℤ pos 1) (k +ℤ pos 1) (pos 1) (no_root e f (k +ℤ pos 1) m j h) (one_here (k +ℤ pos 1)) (one_next (k +ℤ pos 1))
    (level (cv_low f (k +ℤ pos 1) h) (weak (k +ℤ pos 1) f.q.x (cv_high f (k +ℤ pos 1) h))))
    (λ h. start_test f e (k +ℤ pos 1) rf (eq_z_same f.p.x (k +ℤ pos 1) h))
    (λ h. stop_test f e (k +ℤ pos 1) rf (eq_z_same f.q.x (k +ℤ pos 1) h))
    (parts f.p.x f.q.x k (from_strict_gap f.p.x f.q.x rf))
  where
    low_next : (a k : ℤ) → a ≤ℤ k → a <ℤ (k +ℤ pos 1)
    low_next a k h = omega (arith, ints)

    level : f.p.x ≤ℤ (k +ℤ pos 1) → (k +ℤ pos 1) ≤ℤ f.q.x → ¬ (slope f e *ℤ (k +ℤ pos 1) +ℤ gap f e *ℤ pos 1 ≡ pos 0)
    level a b = not_level e f (k +ℤ pos 1) m (cv_run e k i) rf (low_next e.p.x k (cv_low e k i)) (cv_high e (k +ℤ pos 1) j) a b

pub vertical_cover : (p q k : ℤ) → p ≡ q → le_z p k ∧∧ lt_z k q ≡ false
vertical_cover p q k h = grind (arith, ints)

both_sides : (a b o : ℤ) → a <ℤ b → (a ≤ℤ o → o ≤ℤ b → ⊥) → lt_z o a ≡ lt_z o b
both_sides a b o h n = grind (arith, ints)

nothing : (t u v w x y : Bool) → t ≡ false → u ≡ false → x ≡ y → (t ∧∧ v) ⊕ (u ∧∧ w) ≡ x ⊕ y
nothing t u v w x y h i e = grind arith

same_top : (t u x y : Bool) → t ≡ u → (u ≡ true → x ≡ y) → t ∧∧ x ≡ u ∧∧ y
same_top t u x y h i = grind arith

upright : (e f : Edge) (k : ℤ) → MeetAtEnds e f → cv e k ≡ true → cv e (k +ℤ pos 1) ≡ true → f.p.x ≡ f.q.x → f.p.y <ℤ f.q.y
    → (cv f k ∧∧ ab f e k) ⊕ (cv f (k +ℤ pos 1) ∧∧ ab f e (k +ℤ pos 1)) ≡ top e (k +ℤ pos 1) f.p ⊕ top e (k +ℤ pos 1) f.q
upright e f k m i j x y =
    nothing (cv f k) (cv f (k +ℤ pos 1)) (ab f e k) (ab f e (k +ℤ pos 1)) (top e (k +ℤ pos 1) f.p) (top e (k +ℤ pos 1) f.q)
    (vertical_cover f.p.x f.q.x k x) (vertical_cover f.p.x f.q.x (k +ℤ pos 1) x)
    (same_top (eq_z f.p.x (k +ℤ pos 1)) (eq_z f.q.x (k +ℤ pos 1)) (lt_z (off e +ℤ (k +ℤ pos 1) *ℤ rise e) (run e *ℤ f.p.y)) (lt_z (off e +ℤ (k +ℤ pos 1) *ℤ rise e) (run e *ℤ f.q.y))
    (ap (λ (t : ℤ). eq_z t (k +ℤ pos 1)) x)
    (λ h. both_sides (run e *ℤ f.p.y) (run e *ℤ f.q.y) (off e +ℤ (k +ℤ pos 1) *ℤ rise e) (scale_lt f.p.y f.q.y (run e) y (cv_run e k i))
    (no_cross e f m (cv_run e k i) (k +ℤ pos 1) (low_next e.p.x k (cv_low e k i)) (cv_high e (k +ℤ pos 1) j) (x ∙ eq_z_same f.q.x (k +ℤ pos 1) h) (no_gap_is f.p.x f.q.x x) (strict_gap_is f.p.y f.q.y y))))
  where
    low_next : (a k : ℤ) → a ≤ℤ k → a <ℤ (k +ℤ pos 1)
    low_next a k h = omega (arith, ints)

off_column : (t x u y : Bool) → t ≡ false → u ≡ false → t ∧∧ x ≡ u ∧∧ y
off_column t x u y h i = grind arith

not_eq_low : (p k : ℤ) → p ≤ℤ k → eq_z p (k +ℤ pos 1) ≡ false
not_eq_low p k h = grind (arith, ints)

not_eq_high : (q c : ℤ) → c <ℤ q → eq_z q c ≡ false
not_eq_high q c h = grind (arith, ints)

alone : (c d u v x y : Bool) → u ≡ false → v ≡ false → x ≡ y → (c ∧∧ u) ⊕ (d ∧∧ v) ≡ x ⊕ y
alone c d u v x y h i e = grind arith

itself : (e : Edge) (k : ℤ) → cv e k ≡ true → cv e (k +ℤ pos 1) ≡ true
    → (cv e k ∧∧ ab e e k) ⊕ (cv e (k +ℤ pos 1) ∧∧ ab e e (k +ℤ pos 1)) ≡ top e (k +ℤ pos 1) e.p ⊕ top e (k +ℤ pos 1) e.q
itself e k i j = alone (cv e k) (cv e (k +ℤ pos 1)) (ab e e k) (ab e e (k +ℤ pos 1)) (top e (k +ℤ pos 1) e.p) (top e (k +ℤ pos 1) e.q)
    (not_above_itself e k) (not_above_itself e (k +ℤ pos 1))
    (off_column (eq_z e.p.x (k +ℤ pos 1)) (lt_z (off e +ℤ (k +ℤ pos 1) *ℤ rise e) (run e *ℤ e.p.y)) (eq_z e.q.x (k +ℤ pos 1)) (lt_z (off e +ℤ (k +ℤ pos 1) *ℤ rise e) (run e *ℤ e.q.y))
    (not_eq_low e.p.x k (cv_low e k i)) (not_eq_high e.q.x (k +ℤ pos 1) (cv_high e (k +ℤ pos 1) j)))

pub differ : (e f : Edge) → same e f ≡ false → ¬ (e ≡ f)
differ e f s h = false≢true (sym s ∙ subst (λ z. same e z ≡ true) h (same_refl e))

each : (e f : Edge) (k : ℤ) → (¬ (e ≡ f) → MeetAtEnds e f) → Ordered f → cv e k ≡ true → cv e (k +ℤ pos 1) ≡ true → (t : Bool) → same e f ≡ t
    → (cv f k ∧∧ ab f e k) ⊕ (cv f (k +ℤ pos 1) ∧∧ ab f e (k +ℤ pos 1)) ≡ top e (k +ℤ pos 1) f.p ⊕ top e (k +ℤ pos 1) f.q
each e f k m o i j true s = subst (λ z. (cv z k ∧∧ ab z e k) ⊕ (cv z (k +ℤ pos 1) ∧∧ ab z e (k +ℤ pos 1)) ≡ top e (k +ℤ pos 1) z.p ⊕ top e (k +ℤ pos 1) z.q) (same_is e f s) (itself e k i j)
each e f k m (inl x) i j false s = sloping e f k (m (λ h. differ e f s h)) i j (strict_gap_is f.p.x f.q.x x)
each e f k m (inr x) i j false s = upright e f k (m (λ h. differ e f s h)) i j x.0 x.1

-- ---- the number of chosen edges above e, modulo 2, is the same in each of e's columns
abbrev pub among : (Edge → Bool) → List Edge → Edge → ℤ → Bool
among a es e k = par (λ f. a f ∧∧ (cv f k ∧∧ ab f e k)) es

abbrev pub AllOrdered : List Edge → Type 0
AllOrdered es = (e : Edge) → In e es → Ordered e

pub equal : (x y : Bool) → x ⊕ y ≡ false → x ≡ y
equal x y h = grind arith

spread : (a x y p q : Bool) → x ⊕ y ≡ p ⊕ q → (a ∧∧ x) ⊕ (a ∧∧ y) ≡ a ∧∧ (p ⊕ q)
spread a x y p q h = grind arith

pub step : (es : List Edge) → Noded es → AllOrdered es → (a : Edge → Bool) → Even a es → (e : Edge) → In e es → (k : ℤ) → cv e k ≡ true → cv e (k +ℤ pos 1) ≡ true
    → among a es e k ≡ among a es e (k +ℤ pos 1)
step es n o a ev e l k i j = equal (among a es e k) (among a es e (k +ℤ pos 1))
    (par_xor (λ f. a f ∧∧ (cv f k ∧∧ ab f e k)) (λ f. a f ∧∧ (cv f (k +ℤ pos 1) ∧∧ ab f e (k +ℤ pos 1))) es
    ∙ par_cong (λ f. a f ∧∧ (cv f k ∧∧ ab f e k) ⊕ a f ∧∧ (cv f (k +ℤ pos 1) ∧∧ ab f e (k +ℤ pos 1))) (λ f. a f ∧∧ (top e (k +ℤ pos 1) f.p ⊕ top e (k +ℤ pos 1) f.q)) es
    (λ f w. spread (a f) (cv f k ∧∧ ab f e k) (cv f (k +ℤ pos 1) ∧∧ ab f e (k +ℤ pos 1)) (top e (k +ℤ pos 1) f.p) (top e (k +ℤ pos 1) f.q)
    (each e f k (n e f l w) (o f w) i j (same e f) refl))
    ∙ even_sum a es ev (top e (k +ℤ pos 1)))

cv_from : (p q k n : ℤ) → p ≤ℤ k → k ≤ℤ n → n <ℤ q → le_z p n ∧∧ lt_z n q ≡ true
cv_from p q k n h i j = grind (arith, ints)

pub onward : (es : List Edge) → Noded es → AllOrdered es → (a : Edge → Bool) → Even a es → (e : Edge) → In e es → (k : ℤ) → cv e k ≡ true → (n : ℕ) → cv e (k +ℤ pos n) ≡ true
    → among a es e k ≡ among a es e (k +ℤ pos n)
onward es nd o a ev e l k i zero j = ap (among a es e) (none k)
  where
    none : (k : ℤ) → k ≡ k +ℤ pos 0
    none k = omega (arith, ints)
onward es nd o a ev e l k i (suc n) j =
    onward es nd o a ev e l k i n here
    ∙ step es nd o a ev e l (k +ℤ pos n) here (subst (λ (t : ℤ). cv e t ≡ true) (more k n) j)
    ∙ ap (among a es e) (sym (more k n))
  where
    more : (k : ℤ) (n : ℕ) → k +ℤ pos (suc n) ≡ k +ℤ pos n +ℤ pos 1
    more k n = omega (arith, ints)

    far : (k : ℤ) (n : ℕ) → k ≤ℤ (k +ℤ pos n)
    far k n = omega (arith, ints)

    near : (k : ℤ) (n : ℕ) (q : ℤ) → (k +ℤ pos (suc n)) <ℤ q → (k +ℤ pos n) <ℤ q
    near k n q h = omega (arith, ints)

    here : cv e (k +ℤ pos n) ≡ true
    here = cv_from e.p.x e.q.x k (k +ℤ pos n) (cv_low e k i) (far k n) (near k n e.q.x (cv_high e (k +ℤ pos (suc n)) j))

apart_by : (k l : ℤ) → k ≤ℤ l → l ≡ k +ℤ pos (nat_abs (l -ℤ k))
apart_by k l h = omega (arith, ints)

pub anywhere : (es : List Edge) → Noded es → AllOrdered es → (a : Edge → Bool) → Even a es → (e : Edge) → In e es → (k l : ℤ) → cv e k ≡ true → cv e l ≡ true
    → among a es e k ≡ among a es e l
anywhere es n o a ev e m k l i j = by_sign (l -ℤ k) (λ h. sym (right l k j i (less k l h))) (λ h. ap (among a es e) (from_no_gap k l h)) (λ h. right k l i j (more k l h))
  where
    less : (k l : ℤ) → (l -ℤ k) <ℤ pos 0 → l ≤ℤ k
    less k l h = omega (arith, ints)

    more : (k l : ℤ) → pos 0 <ℤ (l -ℤ k) → k ≤ℤ l
    more k l h = omega (arith, ints)

    right : (k l : ℤ) → cv e k ≡ true → cv e l ≡ true → k ≤ℤ l → among a es e k ≡ among a es e l
    right k l i j h = onward es n o a ev e m k i (nat_abs (l -ℤ k)) (subst (λ (t : ℤ). cv e t ≡ true) (apart_by k l h) j) ∙ ap (among a es e) (sym (apart_by k l h))
