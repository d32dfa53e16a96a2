-- Two noded edges do not meet inside a column that one of them passes through.
use mathlib.Core.Path.{◌≡◌, sym, ◌∙◌, ap, subst}
use mathlib.Core.Logic.{inl, inr}
use native.Mathlib.Omega.{arith}
use lib.IntN.{ℤ, pos, ◌+ℤ◌, ◌-ℤ◌, ◌*ℤ◌}
use lib.Signed.{◌<ℤ◌, ◌≤ℤ◌}
use borrow.Author.Differences.{ints}
use Rattle.geom.specs.declared.edge.Edge.{Edge}
use Rattle.geom.specs.Pixel.{Point}
use Rattle.points_law.proofs.Choices.{run, rise, On, IsEnd, MeetAtEnds}
use Rattle.geom.proofs.Integers.{expand, linear, mul_pos, scale_lt, none_right, once_left}
use Rattle.geom.proofs.Numbers.{weak}

-- the line of e is y = (rise e * x + off e) / run e
abbrev pub off : Edge → ℤ
off e = e.p.y *ℤ run e -ℤ e.p.x *ℤ rise e

-- A x + B, over the product of the runs, is how far f is above e at x
abbrev pub slope : Edge → Edge → ℤ
slope f e = run e *ℤ rise f -ℤ run f *ℤ rise e

abbrev pub gap : Edge → Edge → ℤ
gap f e = run e *ℤ off f -ℤ run f *ℤ off e

-- the point of e at X / N
abbrev pub at : (e : Edge) → pos 0 <ℤ run e → ℤ → (N : ℤ) → pos 0 <ℤ N → Point
at e r X N h = record { x = X *ℤ run e; y = N *ℤ off e +ℤ X *ℤ rise e; n = N *ℤ run e; positive = mul_pos N (run e) h r }

-- the coordinate of a point of an edge, on plain numbers
along : (N r p s X : ℤ) → (N *ℤ r) *ℤ p +ℤ (X -ℤ N *ℤ p) *ℤ r ≡ X *ℤ r
along N r p s X = simp expand (omega (arith, linear))

aside : (N r p y s X : ℤ) → (N *ℤ r) *ℤ y +ℤ (X -ℤ N *ℤ p) *ℤ s ≡ N *ℤ (y *ℤ r -ℤ p *ℤ s) +ℤ X *ℤ s
aside N r p y s X = simp expand (omega (arith, linear))

pub width : (N p q : ℤ) → N *ℤ (q -ℤ p) ≡ N *ℤ q -ℤ N *ℤ p
width N p q = simp expand (omega (arith, linear))

pub on_itself : (e : Edge) (r : pos 0 <ℤ run e) (X N : ℤ) (h : pos 0 <ℤ N) → (N *ℤ e.p.x) ≤ℤ X → X ≤ℤ (N *ℤ e.q.x) → On e (at e r X N h)
on_itself e r X N h i j = record {
  m = X -ℤ N *ℤ e.p.x;
  n = N *ℤ run e;
  m_low = omega (arith, linear);
  m_high = omega (arith, linear, width N e.p.x e.q.x);
  n_positive = mul_pos N (run e) h r;
  at_x = ap (λ (t : ℤ). (N *ℤ run e) *ℤ t) (sym (along N (run e) e.p.x (rise e) X));
  at_y = ap (λ (t : ℤ). (N *ℤ run e) *ℤ t) (sym (aside N (run e) e.p.x e.p.y (rise e) X));
}

swapped : (N re rf X : ℤ) → (N *ℤ rf) *ℤ (X *ℤ re) ≡ (N *ℤ re) *ℤ (X *ℤ rf)
swapped N re rf X = simp expand (omega (arith, linear))

level : (N re rf se sf oe of X : ℤ) → (re *ℤ sf -ℤ rf *ℤ se) *ℤ X +ℤ (re *ℤ of -ℤ rf *ℤ oe) *ℤ N ≡ pos 0
    → (N *ℤ rf) *ℤ (N *ℤ oe +ℤ X *ℤ se) ≡ (N *ℤ re) *ℤ (N *ℤ of +ℤ X *ℤ sf)
level N re rf se sf oe of X h = simp expand (omega (arith, linear, simp expand at (ap (λ (t : ℤ). N *ℤ t) h), none_right N))

on_other : (e f : Edge) (re : pos 0 <ℤ run e) (X N : ℤ) (h : pos 0 <ℤ N) → pos 0 <ℤ run f → (N *ℤ f.p.x) ≤ℤ X → X ≤ℤ (N *ℤ f.q.x)
    → slope f e *ℤ X +ℤ gap f e *ℤ N ≡ pos 0 → On f (at e re X N h)
on_other e f re X N h rf i j z = record {
  m = X -ℤ N *ℤ f.p.x;
  n = N *ℤ run f;
  m_low = omega (arith, linear);
  m_high = omega (arith, linear, width N f.p.x f.q.x);
  n_positive = mul_pos N (run f) h rf;
  at_x = swapped N (run e) (run f) X ∙ ap (λ (t : ℤ). (N *ℤ run e) *ℤ t) (sym (along N (run f) f.p.x (rise f) X));
  at_y = level N (run e) (run f) (rise e) (rise f) (off e) (off f) X z ∙ ap (λ (t : ℤ). (N *ℤ run e) *ℤ t) (sym (aside N (run f) f.p.x f.p.y (rise f) X));
}

left_of : (N r p X : ℤ) → pos 0 <ℤ r → (N *ℤ p) <ℤ X → X *ℤ r ≡ (N *ℤ r) *ℤ p → ⊥
left_of N r p X h i e = omega (arith, linear, simp expand at (scale_lt (N *ℤ p) X r i h), simp expand at e)

right_of : (N r q X : ℤ) → pos 0 <ℤ r → X <ℤ (N *ℤ q) → X *ℤ r ≡ (N *ℤ r) *ℤ q → ⊥
right_of N r q X h i e = omega (arith, linear, simp expand at (scale_lt X (N *ℤ q) r i h), simp expand at e)

-- strictly inside e's columns the point of e is no end of e
no_end : (e : Edge) (r : pos 0 <ℤ run e) (X N : ℤ) (h : pos 0 <ℤ N) → (N *ℤ e.p.x) <ℤ X → X <ℤ (N *ℤ e.q.x) → IsEnd e (at e r X N h) → ⊥
no_end e r X N h i j (inl k) = left_of N (run e) e.p.x X r i k.0
no_end e r X N h i j (inr k) = right_of N (run e) e.q.x X r j k.0

pub no_meet : (e f : Edge) → MeetAtEnds e f → pos 0 <ℤ run e → pos 0 <ℤ run f → (X N : ℤ) → pos 0 <ℤ N
    → (N *ℤ e.p.x) <ℤ X → X <ℤ (N *ℤ e.q.x) → (N *ℤ f.p.x) ≤ℤ X → X ≤ℤ (N *ℤ f.q.x)
    → ¬ (slope f e *ℤ X +ℤ gap f e *ℤ N ≡ pos 0)
no_meet e f m re rf X N h i j k l z =
    no_end e re X N h i j (m (at e re X N h) (on_itself e re X N h (weak (N *ℤ e.p.x) X i) (weak X (N *ℤ e.q.x) j)) (on_other e f re X N h rf k l z)).0

-- a vertical edge at a column strictly inside e's: both ends are on one side of e
upright : (r s o c py fr fs : ℤ) → fr ≡ pos 0 → (r *ℤ fs) *ℤ (c *ℤ r) ≡ r *ℤ ((r *ℤ fs) *ℤ c +ℤ ((o +ℤ c *ℤ s) -ℤ r *ℤ py) *ℤ fr)
upright r s o c py fr fs e = subst (λ (t : ℤ). (r *ℤ fs) *ℤ (c *ℤ r) ≡ r *ℤ ((r *ℤ fs) *ℤ c +ℤ ((o +ℤ c *ℤ s) -ℤ r *ℤ py) *ℤ t)) (sym e) (plain r s o c py fs)
  where
    plain : (r s o c py fs : ℤ) → (r *ℤ fs) *ℤ (c *ℤ r) ≡ r *ℤ ((r *ℤ fs) *ℤ c +ℤ ((o +ℤ c *ℤ s) -ℤ r *ℤ py) *ℤ pos 0)
    plain r s o c py fs = simp (none_right, expand) (omega (arith, linear))

upright_y : (r s o c py fs : ℤ) → (r *ℤ fs) *ℤ (o +ℤ c *ℤ s) ≡ r *ℤ ((r *ℤ fs) *ℤ py +ℤ ((o +ℤ c *ℤ s) -ℤ r *ℤ py) *ℤ fs)
upright_y r s o c py fs = simp expand (omega (arith, linear))

pub on_vertical : (e f : Edge) (re : pos 0 <ℤ run e) (c : ℤ) → f.p.x ≡ c → run f ≡ pos 0 → pos 0 <ℤ rise f
    → (run e *ℤ f.p.y) ≤ℤ (off e +ℤ c *ℤ rise e) → (off e +ℤ c *ℤ rise e) ≤ℤ (run e *ℤ f.q.y)
    → On f (at e re c (pos 1) (record { lt = tt }))
on_vertical e f re c x v u i j = record {
  m = (off e +ℤ c *ℤ rise e) -ℤ run e *ℤ f.p.y;
  n = run e *ℤ rise f;
  m_low = omega (arith, linear);
  m_high = omega (arith, linear, width (run e) f.p.y f.q.y);
  n_positive = mul_pos (run e) (rise f) re u;
  at_x = upright (run e) (rise e) (off e) c f.p.y (run f) (rise f) v
      ∙ ap (λ (t : ℤ). run e *ℤ ((run e *ℤ rise f) *ℤ t +ℤ ((off e +ℤ c *ℤ rise e) -ℤ run e *ℤ f.p.y) *ℤ run f)) (sym x)
      ∙ ap (λ (t : ℤ). t *ℤ ((run e *ℤ rise f) *ℤ f.p.x +ℤ ((off e +ℤ c *ℤ rise e) -ℤ run e *ℤ f.p.y) *ℤ run f)) (sym (once_left (run e)));
  at_y = ap (λ (t : ℤ). (run e *ℤ rise f) *ℤ (t +ℤ c *ℤ rise e)) (once_left (off e))
      ∙ upright_y (run e) (rise e) (off e) c f.p.y (rise f)
      ∙ ap (λ (t : ℤ). t *ℤ ((run e *ℤ rise f) *ℤ f.p.y +ℤ ((off e +ℤ c *ℤ rise e) -ℤ run e *ℤ f.p.y) *ℤ rise f)) (sym (once_left (run e)));
}

one_below : (p c : ℤ) → p <ℤ c → (pos 1 *ℤ p) <ℤ c
one_below p c h = omega (arith, ints)

one_above : (c q : ℤ) → c <ℤ q → c <ℤ (pos 1 *ℤ q)
one_above c q h = omega (arith, ints)

pub no_cross : (e f : Edge) → MeetAtEnds e f → pos 0 <ℤ run e → (c : ℤ) → e.p.x <ℤ c → c <ℤ e.q.x → f.p.x ≡ c → run f ≡ pos 0 → pos 0 <ℤ rise f
    → (run e *ℤ f.p.y) ≤ℤ (off e +ℤ c *ℤ rise e) → (off e +ℤ c *ℤ rise e) ≤ℤ (run e *ℤ f.q.y) → ⊥
no_cross e f m re c i j x v u k l =
    no_end e re c (pos 1) (record { lt = tt }) left right
    (m (at e re c (pos 1) (record { lt = tt })) (on_itself e re c (pos 1) (record { lt = tt }) (weak (pos 1 *ℤ e.p.x) c left) (weak c (pos 1 *ℤ e.q.x) right)) (on_vertical e f re c x v u k l)).0
  where
    left : (pos 1 *ℤ e.p.x) <ℤ c
    left = one_below e.p.x c i

    right : c <ℤ (pos 1 *ℤ e.q.x)
    right = one_above c e.q.x j
