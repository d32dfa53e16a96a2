-- The nearest chosen edge below a point just left of a vertex.
use Rattle.std.proofs.Common.{◌≡◌, inl, inr, Bool, true, false, List, [], ◌∷◌, refl, sym, ◌∙◌, arith, subst}
use lib.IntN.{ℤ, pos, negsuc, ◌+ℤ◌, ◌-ℤ◌, ◌*ℤ◌, neg_ℤ}
use lib.Signed.{◌<ℤ◌, ◌≤ℤ◌, lt_z, le_z}
use borrow.Author.Differences.{ints}
use Rattle.geom.specs.declared.point.Pt.{Pt}
use Rattle.geom.specs.declared.edge.Edge.{Edge}
use Rattle.geom.specs.Holes.{left_of, height, run_of}
use Rattle.geom.proofs.Integers.{expand, linear, scale_le, unscale_le, by_sign}
use Rattle.geom.proofs.Lists.{In}
use Rattle.geom.proofs.Numbers.{itself, weak}
use Rattle.geom.proofs.Tests.{le_z_told, lt_z_told}
use Rattle.points_law.proofs.Choices.{◌∧∧◌, Even, run, rise, covers, above, parity, K}
use Rattle.points_law.proofs.ResultOfChoices.{Edges}
use Rattle.points_law.proofs.Even.{by_test, clash}
use Rattle.points_law.proofs.Meet.{off}
use Rattle.points_law.proofs.Column.{cv_low, cv_run}
use Rattle.points_law.proofs.Heights.{covers_is, above_is, is_positive}
use Rattle.points_law.proofs.Vertex.{over_pt, Vertex}
use Rattle.points_law.proofs.HoleVertex.{NoneFromLeft, edge_below, left_in, lift_left, small_rise, level_there}

-- ---- an edge that is not above the point, and does not end at v, is below it
lift_height : (kk r s px py x y : ℤ) → (r *ℤ (kk *ℤ y -ℤ kk *ℤ py)) -ℤ (s *ℤ ((kk *ℤ x -ℤ pos 1) -ℤ kk *ℤ px)) ≡ neg_ℤ ((s *ℤ (kk *ℤ x -ℤ pos 1) +ℤ (py *ℤ r -ℤ px *ℤ s) *ℤ kk) -ℤ r *ℤ (kk *ℤ y))
lift_height kk r s px py x y = simp expand (omega (arith, linear))

strictly : (o s l : ℤ) → ¬ (o ≡ pos 0) → negsuc 2305843009213693951 ≤ℤ s → s ≤ℤ pos 2305843009213693952 → l ≡ K *ℤ o -ℤ s → lt_z (pos 0) l ≡ false → l <ℤ pos 0
strictly o s l n h i e f = by_sign o (λ t. low o s l t h e) (λ t. absurd (n t)) (λ t. absurd (high o s l t i e f))
  where
    low : (o s l : ℤ) → o <ℤ pos 0 → negsuc 2305843009213693951 ≤ℤ s → l ≡ K *ℤ o -ℤ s → l <ℤ pos 0
    low o s l t h e = omega (arith, ints)

    high : (o s l : ℤ) → pos 0 <ℤ o → s ≤ℤ pos 2305843009213693952 → l ≡ K *ℤ o -ℤ s → lt_z (pos 0) l ≡ false → ⊥
    high o s l t h e f = omega (arith, ints)

turned : (a b : ℤ) → a ≡ neg_ℤ b → b <ℤ pos 0 → pos 0 <ℤ a
turned a b h k = omega (arith, ints)

-- ---- heights are compared by their products with runs
nearer : (hy hm hf ry rm rf : ℤ) → pos 0 <ℤ rm → pos 0 ≤ℤ ry → pos 0 ≤ℤ rf → (hy *ℤ rm) ≤ℤ (hm *ℤ ry) → (hm *ℤ rf) ≤ℤ (hf *ℤ rm) → (hy *ℤ rf) ≤ℤ (hf *ℤ ry)
nearer hy hm hf ry rm rf m y f h k =
    let a : (rf *ℤ (hy *ℤ rm)) ≤ℤ (rf *ℤ (hm *ℤ ry)) = scale_le (hy *ℤ rm) (hm *ℤ ry) rf h f in
    let b : (ry *ℤ (hm *ℤ rf)) ≤ℤ (ry *ℤ (hf *ℤ rm)) = scale_le (hm *ℤ rf) (hf *ℤ rm) ry k y in
    unscale_le (hy *ℤ rf) (hf *ℤ ry) rm (simp expand (omega (arith, linear, simp expand at a, simp expand at b))) m

more_than : (a b : ℤ) → le_z a b ≡ false → b ≤ℤ a
more_than a b h = omega (arith, ints)

all_three : (a b c : Bool) → a ∧∧ (b ∧∧ c) ≡ true → (a ≡ true) × (b ≡ true) × (c ≡ true)
all_three a b c h = (grind arith, grind arith, grind arith)

these_three : (a b c : Bool) → a ≡ true → b ≡ true → c ≡ true → a ∧∧ (b ∧∧ c) ≡ true
these_three a b c h i j = grind arith

-- a chosen edge below the point just left of v, none of those among xs being nearer
pub record NearestOf (es : List Edge) (r : Edge → Bool) (v : Pt) (xs : List Edge) : Type 0 where
  pub edge : Edge
  pub inside : In edge es
  pub chosen : r edge ≡ true
  pub over : covers edge (left_of v) ≡ true
  pub below : pos 0 <ℤ height edge (left_of v)
  pub nearest : (f : Edge) → In f xs → r f ≡ true → covers f (left_of v) ≡ true → pos 0 <ℤ height f (left_of v) → (height edge (left_of v) *ℤ run_of f) ≤ℤ (height f (left_of v) *ℤ run_of edge)

module _ (es : List Edge) (h : Edges es) (r : Edge → Bool) (v : Pt) where
  runs_right : (f : Edge) → covers f (left_of v) ≡ true → pos 0 <ℤ run f
  runs_right f c = cv_run f (v.x -ℤ pos 1) (sym (covers_is (left_of v) (v.x -ℤ pos 1) (left_in v) f) ∙ c)

  -- it begins further left
  pub begins_left : (f : Edge) → covers f (left_of v) ≡ true → f.p.x ≤ℤ (v.x -ℤ pos 1)
  begins_left f c = cv_low f (v.x -ℤ pos 1) (sym (covers_is (left_of v) (v.x -ℤ pos 1) (left_in v) f) ∙ c)

  strictly_below : Vertex es v → NoneFromLeft r es v → (f : Edge) → In f es → r f ≡ true → covers f (left_of v) ≡ true → above f (left_of v) ≡ false → pos 0 <ℤ height f (left_of v)
  strictly_below w n f i rf c a = turned (height f (left_of v)) ((rise f *ℤ (K *ℤ v.x -ℤ pos 1) +ℤ off f *ℤ K) -ℤ run f *ℤ (K *ℤ v.y))
      (lift_height K (run f) (rise f) f.p.x f.p.y v.x v.y)
      (strictly (over_pt f v) (rise f) ((rise f *ℤ (K *ℤ v.x -ℤ pos 1) +ℤ off f *ℤ K) -ℤ run f *ℤ (K *ℤ v.y))
      (level_there es h v w f i (sym (covers_is (left_of v) (v.x -ℤ pos 1) (left_in v) f) ∙ c) (n f i rf))
      (small_rise (rise f) (h.small f i).rise_low (h.small f i).rise_high).0 (small_rise (rise f) (h.small f i).rise_low (h.small f i).rise_high).1
      (lift_left K (run f) (rise f) (off f) v.x v.y) (sym (above_is f (left_of v)) ∙ a))

  is_below : Edge → Bool
  is_below f = r f ∧∧ (covers f (left_of v) ∧∧ lt_z (pos 0) (height f (left_of v)))

  keep : (y : Edge) (ys : List Edge) (m : NearestOf es r v ys) → (r y ≡ true → covers y (left_of v) ≡ true → pos 0 <ℤ height y (left_of v) → (height m.edge (left_of v) *ℤ run_of y) ≤ℤ (height y (left_of v) *ℤ run_of m.edge)) → NearestOf es r v (y ∷ ys)
  keep y ys m b = record { edge = m.edge; inside = m.inside; chosen = m.chosen; over = m.over; below = m.below; nearest = still }
    where
      still : (f : Edge) → In f (y ∷ ys) → r f ≡ true → covers f (left_of v) ≡ true → pos 0 <ℤ height f (left_of v) → (height m.edge (left_of v) *ℤ run_of f) ≤ℤ (height f (left_of v) *ℤ run_of m.edge)
      still f (inr k) = m.nearest f k
      still f (inl q) = subst (λ (f : Edge). r f ≡ true → covers f (left_of v) ≡ true → pos 0 <ℤ height f (left_of v) → (height m.edge (left_of v) *ℤ run_of f) ≤ℤ (height f (left_of v) *ℤ run_of m.edge)) q b

  better : (y : Edge) (ys : List Edge) → In y es → r y ≡ true → covers y (left_of v) ≡ true → pos 0 <ℤ height y (left_of v) → (m : NearestOf es r v ys) → (height y (left_of v) *ℤ run_of m.edge) ≤ℤ (height m.edge (left_of v) *ℤ run_of y) → NearestOf es r v (y ∷ ys)
  better y ys i ry c b m l = record { edge = y; inside = i; chosen = ry; over = c; below = b; nearest = now }
    where
      now : (f : Edge) → In f (y ∷ ys) → r f ≡ true → covers f (left_of v) ≡ true → pos 0 <ℤ height f (left_of v) → (height y (left_of v) *ℤ run_of f) ≤ℤ (height f (left_of v) *ℤ run_of y)
      now f (inl q) rf d u = subst (λ (f : Edge). (height y (left_of v) *ℤ run_of f) ≤ℤ (height f (left_of v) *ℤ run_of y)) q (itself (height y (left_of v) *ℤ run_of y))
      now f (inr k) rf d u = nearer (height y (left_of v)) (height m.edge (left_of v)) (height f (left_of v)) (run_of y) (run_of m.edge) (run_of f)
          (runs_right m.edge m.over) (weak (pos 0) (run y) (runs_right y c)) (weak (pos 0) (run f) (runs_right f d)) l (m.nearest f k rf d u)

  next : (y : Edge) (ys : List Edge) → In y es → (t : Bool) → is_below y ≡ t → NearestOf es r v ys → NearestOf es r v (y ∷ ys)
  unfolding is_below
  next y ys i false t m = keep y ys m (λ ry c b. clash (is_below y) t (these_three (r y) (covers y (left_of v)) (lt_z (pos 0) (height y (left_of v))) ry c (is_positive (height y (left_of v)) b)))
  next y ys i true t m = let p = all_three (r y) (covers y (left_of v)) (lt_z (pos 0) (height y (left_of v))) t in
      by_test (le_z (height m.edge (left_of v) *ℤ run_of y) (height y (left_of v) *ℤ run_of m.edge)) (NearestOf es r v (y ∷ ys))
      (λ s. keep y ys m (λ ry c b. le_z_told (height m.edge (left_of v) *ℤ run_of y) (height y (left_of v) *ℤ run_of m.edge) s))
      (λ s. better y ys i p.0 p.1 (lt_z_told (pos 0) (height y (left_of v)) p.2) m (more_than (height m.edge (left_of v) *ℤ run_of y) (height y (left_of v) *ℤ run_of m.edge) s))

  nearest_in : NearestOf es r v [] → (xs : List Edge) → ((f : Edge) → In f xs → In f es) → NearestOf es r v xs
  nearest_in c [] known = c
  nearest_in c (y ∷ ys) known = next y ys (known y (inl refl)) (is_below y) refl (nearest_in c ys (λ f i. known f (inr i)))

  pub nearest_below : Even r es → Vertex es v → NoneFromLeft r es v → parity r es (left_of v) ≡ true → NearestOf es r v es
  nearest_below ev w n odd = let b = edge_below es h r ev v odd in
      nearest_in (record { edge = b.edge; inside = b.inside; chosen = b.chosen; over = b.covers_it; below = strictly_below w n b.edge b.inside b.chosen b.covers_it b.not_above; nearest = λ f i. absurd i }) es (λ f i. i)
