-- A rational point lies in the column from k to k + 1; what covers it and what is above it, by that column.
use mathlib.Core.Path.{◌≡◌, sym, ◌∙◌, ap, subst}
use mathlib.Core.Bool.{Bool, true}
use Prim.Native.Nat.{ℕ}
use native.Mathlib.Omega.{arith}
use lib.IntN.{ℤ, pos, negsuc, ◌+ℤ◌, ◌-ℤ◌, ◌*ℤ◌}
use lib.Signed.{◌<ℤ◌, ◌≤ℤ◌, lt_z, le_z, shr_z}
use borrow.Author.Differences.{ints}
use Rattle.geom.specs.declared.edge.Edge.{Edge}
use Rattle.geom.specs.Pixel.{Point}
use Rattle.points_law.proofs.Choices.{◌⊕◌, ◌∧∧◌, run, rise, MeetAtEnds, covers, above}
use Rattle.geom.proofs.Integers.{expand, linear, scale_le, mul_pos, cancel_pos, by_sign}
use Rattle.geom.proofs.Numbers.{le_le, lt_le, weak}
use Rattle.geom.proofs.Tests.{lt_z_told}
use Rattle.points_law.proofs.Sign.{twice, stays_up}
use Rattle.points_law.proofs.Meet.{off, slope, gap}
use Rattle.points_law.proofs.Column.{cv, ab, up_to, no_root, cv_run}

pub record InColumn (z : Point) (k : ℤ) : Type 0 where
  pub low : (z.n *ℤ k) ≤ℤ z.x
  pub high : z.x <ℤ (z.n *ℤ (k +ℤ pos 1))

floor_low : (X : ℤ) (n : ℕ) → pos 0 <ℤ pos n → (pos n *ℤ shr_z X n) ≤ℤ X
floor_low (pos a) n h = omega (arith, ints)
floor_low (negsuc a) n h = omega (arith, ints)

floor_high : (X : ℤ) (n : ℕ) → pos 0 <ℤ pos n → X <ℤ (pos n *ℤ (shr_z X n +ℤ pos 1))
floor_high (pos a) n h = simp expand (omega (arith, ints))
floor_high (negsuc a) n h = simp expand (omega (arith, ints))

floor : (X Y N : ℤ) (h : pos 0 <ℤ N) → (k : ℤ) × InColumn (record { x = X; y = Y; n = N; positive = h }) k
floor X Y (pos n) h = (shr_z X n, record { low = floor_low X n h; high = floor_high X n h })
floor X Y (negsuc n) h = absurd (omega (arith, ints))

pub column : (z : Point) → (k : ℤ) × InColumn z k
column z = floor z.x z.y z.n z.positive

-- ---- covers
same_le : (a b c d : ℤ) → (a ≤ℤ b → c ≤ℤ d) → (b <ℤ a → d <ℤ c) → le_z c d ≡ le_z a b
same_le a b c d h i = by_sign (b -ℤ a) (λ s. no a b c d (i (o1 a b s)) (o1 a b s)) (λ s. yes a b c d (h (o2 a b s)) (o2 a b s)) (λ s. yes a b c d (h (o3 a b s)) (o3 a b s))
  where
    o1 : (a b : ℤ) → (b -ℤ a) <ℤ pos 0 → b <ℤ a
    o1 a b s = omega (arith, ints)

    o2 : (a b : ℤ) → b -ℤ a ≡ pos 0 → a ≤ℤ b
    o2 a b s = omega (arith, ints)

    o3 : (a b : ℤ) → pos 0 <ℤ (b -ℤ a) → a ≤ℤ b
    o3 a b s = omega (arith, ints)

    yes : (a b c d : ℤ) → c ≤ℤ d → a ≤ℤ b → le_z c d ≡ le_z a b
    yes a b c d h i = grind (arith, ints)

    no : (a b c d : ℤ) → d <ℤ c → b <ℤ a → le_z c d ≡ le_z a b
    no a b c d h i = grind (arith, ints)

flip_test : (a b : ℤ) → lt_z a b ≡ true ⊕ le_z b a
flip_test a b = grind (arith, ints)

low_test : (z : Point) (k p : ℤ) → InColumn z k → le_z (z.n *ℤ p) z.x ≡ le_z p k
low_test z k p c = same_le p k (z.n *ℤ p) z.x
    (λ h. le_le (z.n *ℤ p) (z.n *ℤ k) z.x (scale_le p k z.n h (weak (pos 0) z.n z.positive)) c.low)
    (λ h. lt_le z.x (z.n *ℤ (k +ℤ pos 1)) (z.n *ℤ p) c.high (scale_le (k +ℤ pos 1) p z.n (up_to k p h) (weak (pos 0) z.n z.positive)))

pub covers_is : (z : Point) (k : ℤ) → InColumn z k → (e : Edge) → covers e z ≡ cv e k
covers_is z k c e = ap (λ (t : Bool). t ∧∧ lt_z z.x (z.n *ℤ e.q.x)) (low_test z k e.p.x c)
    ∙ ap (λ (t : Bool). le_z e.p.x k ∧∧ t) (flip_test z.x (z.n *ℤ e.q.x) ∙ ap (λ (t : Bool). true ⊕ t) (low_test z k e.q.x c) ∙ sym (flip_test k e.q.x))

-- ---- above
-- how far e is above z, over N and the run
abbrev pub lift : Edge → Point → ℤ
lift e z = (rise e *ℤ z.x +ℤ off e *ℤ z.n) -ℤ run e *ℤ z.y

shift : (a b x : ℤ) → b -ℤ a ≡ x → lt_z a b ≡ lt_z (pos 0) x
shift a b x h = grind (arith, ints)

lift_of : (r s X Y N px py : ℤ) → s *ℤ (X -ℤ N *ℤ px) -ℤ r *ℤ (Y -ℤ N *ℤ py) ≡ (s *ℤ X +ℤ (py *ℤ r -ℤ px *ℤ s) *ℤ N) -ℤ r *ℤ Y
lift_of r s X Y N px py = simp expand (omega (arith, linear))

pub above_is : (e : Edge) (z : Point) → above e z ≡ lt_z (pos 0) (lift e z)
above_is e z = shift (run e *ℤ (z.y -ℤ z.n *ℤ e.p.y)) (rise e *ℤ (z.x -ℤ z.n *ℤ e.p.x)) (lift e z) (lift_of (run e) (rise e) z.x z.y z.n e.p.x e.p.y)

lifts : (re rf se sf oe of X Y N : ℤ) → re *ℤ ((sf *ℤ X +ℤ of *ℤ N) -ℤ rf *ℤ Y) ≡ ((re *ℤ sf -ℤ rf *ℤ se) *ℤ X +ℤ (re *ℤ of -ℤ rf *ℤ oe) *ℤ N) +ℤ rf *ℤ ((se *ℤ X +ℤ oe *ℤ N) -ℤ re *ℤ Y)
lifts re rf se sf oe of X Y N = simp expand (omega (arith, linear))

add_pos : (x y : ℤ) → pos 0 ≤ℤ x → pos 0 <ℤ y → pos 0 <ℤ (x +ℤ y)
add_pos x y h k = omega (arith, ints)

pub is_positive : (x : ℤ) → pos 0 <ℤ x → lt_z (pos 0) x ≡ true
is_positive x h = grind (arith, ints)

-- what is above an edge that is above z is above z
pub upward : (e f : Edge) (z : Point) (k : ℤ) → InColumn z k → MeetAtEnds e f → cv e k ≡ true → cv f k ≡ true → ab f e k ≡ true → above e z ≡ true → above f z ≡ true
upward e f z k c m i j u v = above_is f z ∙ is_positive (lift f z) (cancel_pos (run e) (lift f z) (cv_run e k i)
    (subst (λ (t : ℤ). pos 0 <ℤ t) (sym (lifts (run e) (run f) (rise e) (rise f) (off e) (off f) z.x z.y z.n))
    (add_pos (slope f e *ℤ z.x +ℤ gap f e *ℤ z.n) (run f *ℤ lift e z)
    (stays_up (slope f e) (gap f e) k z.x z.n (no_root e f k m i j) (lt_z_told (pos 0) (twice (slope f e) (gap f e) k) u) c.low (weak z.x (z.n *ℤ (k +ℤ pos 1)) c.high))
    (mul_pos (run f) (lift e z) (cv_run f k j) (lt_z_told (pos 0) (lift e z) (sym (above_is e z) ∙ v))))))
