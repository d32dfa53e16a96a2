-- The chosen edges above a nearest one below the point just left of a vertex are those above that point.
use Rattle.std.proofs.Common.{◌≡◌, Bool, true, false, List, refl, sym, ap, ◌∙◌, arith, subst}
use lib.IntN.{ℤ, pos, negsuc, ◌+ℤ◌, ◌-ℤ◌, ◌*ℤ◌, neg_ℤ}
use lib.Signed.{◌<ℤ◌, ◌≤ℤ◌, lt_z}
use borrow.Author.Differences.{ints}
use Rattle.geom.specs.declared.point.Pt.{Pt}
use Rattle.geom.specs.declared.edge.Edge.{Edge}
use Rattle.geom.specs.Holes.{left_of, height}
use Rattle.geom.specs.Pixel.{Point}
use Rattle.geom.proofs.Integers.{expand, linear, mul_pos, by_sign}
use Rattle.geom.proofs.Lists.{In}
use Rattle.geom.proofs.Numbers.{weak}
use Rattle.points_law.proofs.Choices.{◌∧∧◌, Even, MeetAtEnds, run, rise, covers, above, counted, parity, left, K}
use Rattle.points_law.proofs.ResultOfChoices.{Edges}
use Rattle.points_law.proofs.Sums.{par_cong}
use Rattle.points_law.proofs.Even.{same, same_is}
use Rattle.points_law.proofs.Sign.{sign}
use Rattle.points_law.proofs.Meet.{off, slope, gap}
use Rattle.points_law.proofs.Column.{cv, ab, cv_run, no_root, not_above_itself, differ, among}
use Rattle.points_law.proofs.Heights.{covers_is, above_is, lift}
use Rattle.points_law.proofs.Vertex.{over_pt, Vertex}
use Rattle.points_law.proofs.Turn.{sloping_left}
use Rattle.points_law.proofs.HoleVertex.{NoneFromLeft, left_in, lift_left, small_rise, level_there}
use Rattle.points_law.proofs.EdgeBelow.{NearestOf}

-- ---- heights at a point
height_is : (r s X Y N px py : ℤ) → r *ℤ (Y -ℤ N *ℤ py) -ℤ s *ℤ (X -ℤ N *ℤ px) ≡ neg_ℤ ((s *ℤ X +ℤ (py *ℤ r -ℤ px *ℤ s) *ℤ N) -ℤ r *ℤ Y)
height_is r s X Y N px py = simp expand (omega (arith, linear))

gap_there : (re rf se sf oe of X Y N : ℤ) → (re *ℤ sf -ℤ rf *ℤ se) *ℤ X +ℤ (re *ℤ of -ℤ rf *ℤ oe) *ℤ N
    ≡ re *ℤ ((sf *ℤ X +ℤ of *ℤ N) -ℤ rf *ℤ Y) -ℤ rf *ℤ ((se *ℤ X +ℤ oe *ℤ N) -ℤ re *ℤ Y)
gap_there re rf se sf oe of X Y N = simp expand (omega (arith, linear))

-- f is above e just where it is above the point, if e is below that point and no nearer than f where f is below it too
above_both : (re rf le lf he hf : ℤ) → pos 0 <ℤ re → pos 0 <ℤ rf → he ≡ neg_ℤ le → hf ≡ neg_ℤ lf → pos 0 <ℤ he → ¬ (lf ≡ pos 0)
    → (pos 0 <ℤ hf → (he *ℤ rf) ≤ℤ (hf *ℤ re))
    → lt_z (pos 0) (re *ℤ lf -ℤ rf *ℤ le) ≡ lt_z (pos 0) lf
above_both re rf le lf he hf p q h k b n near = by_sign lf
    (λ s. down (re *ℤ lf -ℤ rf *ℤ le) lf (lower re rf le lf he hf h k (near (turned lf hf k s))) s)
    (λ s. absurd (n s))
    (λ s. up (re *ℤ lf -ℤ rf *ℤ le) lf (more re rf le lf he h (mul_pos re lf p s) (mul_pos rf he q b)) s)
  where
    turned : (l h : ℤ) → h ≡ neg_ℤ l → l <ℤ pos 0 → pos 0 <ℤ h
    turned l h e s = omega (arith, ints)

    lower : (re rf le lf he hf : ℤ) → he ≡ neg_ℤ le → hf ≡ neg_ℤ lf → (he *ℤ rf) ≤ℤ (hf *ℤ re) → (re *ℤ lf -ℤ rf *ℤ le) ≤ℤ pos 0
    lower re rf le lf he hf h k t =
        omega (arith, linear, simp expand at (ap (λ (x : ℤ). x *ℤ rf) h), simp expand at (ap (λ (x : ℤ). x *ℤ re) k), simp expand at t)

    more : (re rf le lf he : ℤ) → he ≡ neg_ℤ le → pos 0 <ℤ (re *ℤ lf) → pos 0 <ℤ (rf *ℤ he) → pos 0 <ℤ (re *ℤ lf -ℤ rf *ℤ le)
    more re rf le lf he h s t = omega (arith, linear, simp expand at (ap (λ (x : ℤ). rf *ℤ x) h))

    down : (a b : ℤ) → a ≤ℤ pos 0 → b <ℤ pos 0 → lt_z (pos 0) a ≡ lt_z (pos 0) b
    down a b h i = grind (arith, ints)

    up : (a b : ℤ) → pos 0 <ℤ a → pos 0 <ℤ b → lt_z (pos 0) a ≡ lt_z (pos 0) b
    up a b h i = grind (arith, ints)

-- K times a number that is not 0, less a rise, is not 0
not_level : (o s l : ℤ) → ¬ (o ≡ pos 0) → negsuc 2305843009213693951 ≤ℤ s → s ≤ℤ pos 2305843009213693952 → l ≡ K *ℤ o -ℤ s → ¬ (l ≡ pos 0)
not_level o s l n h i e z = by_sign o (λ t. low o s l t h e z) (λ t. n t) (λ t. high o s l t i e z)
  where
    low : (o s l : ℤ) → o <ℤ pos 0 → negsuc 2305843009213693951 ≤ℤ s → l ≡ K *ℤ o -ℤ s → l ≡ pos 0 → ⊥
    low o s l t h e z = omega (arith, ints)

    high : (o s l : ℤ) → pos 0 <ℤ o → s ≤ℤ pos 2305843009213693952 → l ≡ K *ℤ o -ℤ s → l ≡ pos 0 → ⊥
    high o s l t i e z = omega (arith, ints)

not_above : (l h : ℤ) → h ≡ neg_ℤ l → pos 0 <ℤ h → lt_z (pos 0) l ≡ false
not_above l h e b = grind (arith, ints)

inside_low : (x : ℤ) → (K *ℤ (x -ℤ pos 1)) <ℤ (K *ℤ x -ℤ pos 1)
inside_low x = omega (arith, ints)

if_chosen : (a c u w : Bool) → (a ≡ true → c ≡ true → u ≡ w) → a ∧∧ (c ∧∧ u) ≡ a ∧∧ (c ∧∧ w)
if_chosen a c u w h = grind arith

-- ---- the chosen edges above a nearest one below the point just left of v are those above the point
module _ (es : List Edge) (h : Edges es) (r : Edge → Bool) (v : Pt) (w : Vertex es v) (n : NoneFromLeft r es v) (m : NearestOf es r v es) where
  abbrev z : Point
  z = left_of v

  abbrev k : ℤ
  k = v.x -ℤ pos 1

  column_of : (f : Edge) → covers f z ≡ cv f k
  column_of f = covers_is z k (left_in v) f

  covers_k : cv m.edge k ≡ true
  covers_k = sym (column_of m.edge) ∙ m.over

  minus_lift : (f : Edge) → height f z ≡ neg_ℤ (lift f z)
  minus_lift f = height_is (run f) (rise f) z.x z.y z.n f.p.x f.p.y

  off_point : (f : Edge) → In f es → r f ≡ true → cv f k ≡ true → ¬ (lift f z ≡ pos 0)
  off_point f i rf c = let s = small_rise (rise f) (h.small f i).rise_low (h.small f i).rise_high in
      not_level (over_pt f v) (rise f) (lift f z) (level_there es h v w f i c (n f i rf)) s.0 s.1 (lift_left K (run f) (rise f) (off f) v.x v.y)

  other_above : (f : Edge) → In f es → r f ≡ true → cv f k ≡ true → MeetAtEnds m.edge f → ab f m.edge k ≡ above f z
  other_above f i rf c t =
      sign (slope f m.edge) (gap f m.edge) k z.x z.n (no_root m.edge f k t covers_k c)
      (weak (z.n *ℤ k) z.x (inside_low v.x)) (weak z.x (z.n *ℤ (k +ℤ pos 1)) (left_in v).high)
      (no_root m.edge f k t covers_k c z.x z.n z.positive (inside_low v.x) (left_in v).high)
      ∙ ap (lt_z (pos 0)) (gap_there (run m.edge) (run f) (rise m.edge) (rise f) (off m.edge) (off f) z.x z.y z.n)
      ∙ above_both (run m.edge) (run f) (lift m.edge z) (lift f z) (height m.edge z) (height f z)
      (cv_run m.edge k covers_k) (cv_run f k c) (minus_lift m.edge) (minus_lift f) m.below
      (off_point f i rf c) (λ b. m.nearest f i rf (column_of f ∙ c) b)
      ∙ sym (above_is f z)

  each_above : (f : Edge) → In f es → r f ≡ true → cv f k ≡ true → (t : Bool) → same m.edge f ≡ t → ab f m.edge k ≡ above f z
  each_above f i rf c true s = subst (λ (g : Edge). ab g m.edge k ≡ above g z) (same_is m.edge f s)
      (not_above_itself m.edge k ∙ sym (above_is m.edge z ∙ not_above (lift m.edge z) (height m.edge z) (minus_lift m.edge) m.below))
  each_above f i rf c false s = other_above f i rf c (h.noded m.edge f m.inside i (differ m.edge f s))

  above_nearest : among r es m.edge k ≡ parity r es z
  above_nearest = par_cong (λ f. r f ∧∧ (cv f k ∧∧ ab f m.edge k)) (λ f. r f ∧∧ counted f z) es
      (λ f i. if_chosen (r f) (cv f k) (ab f m.edge k) (above f z) (λ rf c. each_above f i rf c (same m.edge f) refl)
      ∙ ap (λ (t : Bool). r f ∧∧ (t ∧∧ above f z)) (sym (column_of f)))

  -- so its upper side is as the point is
  pub upper_side : Even r es → parity r es (left m.edge) ≡ parity r es z
  upper_side ev = sloping_left es h r ev m.edge m.inside k covers_k ∙ above_nearest
