-- Height in a column is an order in which any two edges compare; of two noded edges one is higher, and it is nowhere under the other.
use Rattle.std.proofs.Common.{◌≡◌, ⊎_elim, ◌⊎◌, Bool, true, false, int_lt, sym, ap, ◌∙◌, subst, arith}
use mathlib.Core.Bool.{false≢true}
use Rattle.std.specs.Cmp.{IsStrictWeakOrder}
use Rattle.std.specs.Prelude.{pos, ◌<ℤ◌, ◌≤ℤ◌}
use Rattle.std.proofs.Math.IntN.{ℤ, ◌-ℤ◌, ◌+ℤ◌, ◌*ℤ◌}
use Rattle.std.proofs.lemmas.Int.{ints}
use lib.Signed.{lt_z, le_z}
use Rattle.geom.specs.declared.edge.Edge.{Edge}
use Rattle.geom.proofs.Integers.{expand, linear}
use Rattle.geom.proofs.Numbers.{nonneg, weak}
use Rattle.points_law.proofs.Choices.{◌⊕◌, ◌∧∧◌, run, rise, MeetAtEnds}
use Rattle.points_law.proofs.Column.{ab, cv, cv_low, cv_high, cv_run, not_above_itself, one_above}
use Rattle.points_law.proofs.Meet.{slope, gap}
use Rattle.points_law.proofs.Next.{chain}
use Rattle.points_law.proofs.Sign.{twice}
use Rattle.label_sweep.specs.declared.column.CrossingEdge.{CrossingEdge}
use Rattle.label_sweep.specs.Heights.{IsMeasured, is_above}
use Rattle.label_sweep.specs.Status.{IsUnder}
use Rattle.label_sweep.proofs.Order.{Common, stays_under}
use Rattle.label_sweep.proofs.Steepness.{sloping_between, under}

-- the test by which they are sorted
abbrev pub is_higher : CrossingEdge → CrossingEdge → Bool
is_higher s t = is_above s.height s.run t.height t.run

abbrev pub edge_of : CrossingEdge → Edge
edge_of c = c.spoke.one.edge

abbrev pub AtHeight : ℤ → CrossingEdge → Type 0
AtHeight x c = IsMeasured x c.spoke.one.edge c.run c.height

-- how far s is above t, times the runs of both
abbrev lead : CrossingEdge → CrossingEdge → ℤ
lead s t = t.run *ℤ s.height -ℤ s.run *ℤ t.height

-- ---- an order in which any two edges compare
leads : (a b : ℤ) → int_lt a b ≡ true → pos 0 <ℤ (b -ℤ a)
leads a b h = omega (arith, ints)

no_lead : (a b : ℤ) → int_lt a b ≡ false → (b -ℤ a) ≤ℤ pos 0
no_lead a b h = omega (arith, ints)

of_no_lead : (a b : ℤ) → (b -ℤ a) ≤ℤ pos 0 → int_lt a b ≡ false
of_no_lead a b h = grind (arith, ints)

not_back : (a b : ℤ) → int_lt a b ≡ true → int_lt b a ≡ false
not_back a b h = grind (arith, ints)

not_higher_through : (s t u : CrossingEdge) → lead s t ≤ℤ pos 0 → lead t u ≤ℤ pos 0 → lead s u ≤ℤ pos 0
not_higher_through s t u h k = sloping_between t.run (lead s u) (s.run *ℤ lead t u) (u.run *ℤ lead s t) t.sloping
    (chain s.run t.run u.run s.height t.height u.height) (under s.run (lead t u) (nonneg s.run s.sloping) k) (under u.run (lead s t) (nonneg u.run u.sloping) h)

pub by_height : IsStrictWeakOrder is_higher
by_height = record {
  one_way = λ s t h. not_back (s.run *ℤ t.height) (t.run *ℤ s.height) h;
  chain = λ s t u h k. of_no_lead (s.run *ℤ u.height) (u.run *ℤ s.height)
      (not_higher_through s t u (no_lead (s.run *ℤ t.height) (t.run *ℤ s.height) h) (no_lead (t.run *ℤ u.height) (u.run *ℤ t.height) k));
}

-- ---- in a column, above is higher
lead_is : (re rf se sf px py qx qy x : ℤ) → re *ℤ (pos 2 *ℤ (rf *ℤ qy -ℤ sf *ℤ (qx -ℤ x)) -ℤ sf) -ℤ rf *ℤ (pos 2 *ℤ (re *ℤ py -ℤ se *ℤ (px -ℤ x)) -ℤ se)
    ≡ ((re *ℤ sf -ℤ rf *ℤ se) *ℤ (x -ℤ pos 1) +ℤ (re *ℤ (qy *ℤ rf -ℤ qx *ℤ sf) -ℤ rf *ℤ (py *ℤ re -ℤ px *ℤ se)))
    +ℤ ((re *ℤ sf -ℤ rf *ℤ se) *ℤ (x -ℤ pos 1 +ℤ pos 1) +ℤ (re *ℤ (qy *ℤ rf -ℤ qx *ℤ sf) -ℤ rf *ℤ (py *ℤ re -ℤ px *ℤ se)))
lead_is re rf se sf px py qx qy x = simp expand (omega (arith, linear))

tests_as : (a b : ℤ) → lt_z (pos 0) (b -ℤ a) ≡ int_lt a b
tests_as a b = grind (arith, ints)

module _ (x : ℤ) where
  lead_of : (f e : CrossingEdge) → AtHeight x f → AtHeight x e → lead f e ≡ twice (slope (edge_of f) (edge_of e)) (gap (edge_of f) (edge_of e)) (x -ℤ pos 1)
  lead_of f e m n = (λ i. n.run_is i *ℤ m.height_is i -ℤ m.run_is i *ℤ n.height_is i)
      ∙ lead_is (run (edge_of e)) (run (edge_of f)) (rise (edge_of e)) (rise (edge_of f)) (edge_of e).p.x (edge_of e).p.y (edge_of f).p.x (edge_of f).p.y x

  above_is_higher : (f e : CrossingEdge) → AtHeight x f → AtHeight x e → ab (edge_of f) (edge_of e) (x -ℤ pos 1) ≡ is_higher f e
  above_is_higher f e m n = ap (λ (t : ℤ). lt_z (pos 0) t) (sym (lead_of f e m n)) ∙ tests_as (f.run *ℤ e.height) (e.run *ℤ f.height)

  in_column : (p q x : ℤ) → p <ℤ x → x ≤ℤ q → le_z p (x -ℤ pos 1) ∧∧ lt_z (x -ℤ pos 1) q ≡ true
  in_column p q x h i = grind (arith, ints)

  covers : (c : CrossingEdge) → AtHeight x c → cv (edge_of c) (x -ℤ pos 1) ≡ true
  covers c m = in_column (edge_of c).p.x (edge_of c).q.x x m.begun m.lasts

  -- of two that meet only at ends one is higher
  pub one_higher : (e f : CrossingEdge) → AtHeight x e → AtHeight x f → MeetAtEnds (edge_of e) (edge_of f) → is_higher f e ⊕ is_higher e f ≡ true
  one_higher e f m n d = sym (λ i. above_is_higher f e n m i ⊕ above_is_higher e f m n i) ∙ one_above (edge_of e) (edge_of f) (x -ℤ pos 1) d (covers e m) (covers f n)

  -- and not of one edge
  pub higher_differs : (e f : CrossingEdge) → AtHeight x e → AtHeight x f → is_higher f e ≡ true → ¬ (edge_of e ≡ edge_of f)
  higher_differs e f m n h s = false≢true (sym (not_above_itself (edge_of e) (x -ℤ pos 1))
      ∙ subst (λ (t : Edge). ab t (edge_of e) (x -ℤ pos 1) ≡ true) (sym s) (above_is_higher f e n m ∙ h))

  -- ---- and what is lower is nowhere above
  either : (a b : ℤ) → pos 0 <ℤ (a +ℤ b) → (pos 0 <ℤ a) ⊎ (pos 0 <ℤ b)
  either a b h = grind (arith, ints)

  on_left : (e f : CrossingEdge) → AtHeight x e → AtHeight x f → Common (edge_of e) (edge_of f) (x -ℤ pos 1)
  on_left e f m n = let i = covers e m in let j = covers f n in
      record { e_low = cv_low (edge_of e) _ i; e_high = weak _ _ (cv_high (edge_of e) _ i); f_low = cv_low (edge_of f) _ j; f_high = weak _ _ (cv_high (edge_of f) _ j) }

  back : (x : ℤ) → x ≡ x -ℤ pos 1 +ℤ pos 1
  back x = omega (arith, ints)

  on_right : (e f : CrossingEdge) → AtHeight x e → AtHeight x f → Common (edge_of e) (edge_of f) (x -ℤ pos 1 +ℤ pos 1)
  on_right e f m n = subst (λ (t : ℤ). Common (edge_of e) (edge_of f) t) (back x)
      (record { e_low = weak _ _ m.begun; e_high = m.lasts; f_low = weak _ _ n.begun; f_high = n.lasts })

  pub lower_is_under : (e f : CrossingEdge) → AtHeight x e → AtHeight x f → MeetAtEnds (edge_of e) (edge_of f) → is_higher f e ≡ true → IsUnder (edge_of e) (edge_of f)
  lower_is_under e f m n d h =
      let re = cv_run (edge_of e) _ (covers e m) in
      let rf = cv_run (edge_of f) _ (covers f n) in
      let above : pos 0 <ℤ twice (slope (edge_of f) (edge_of e)) (gap (edge_of f) (edge_of e)) (x -ℤ pos 1)
      = subst (λ (t : ℤ). pos 0 <ℤ t) (lead_of f e n m) (leads (f.run *ℤ e.height) (e.run *ℤ f.height) h) in
      ⊎_elim (λ k. stays_under (edge_of e) (edge_of f) d re rf (x -ℤ pos 1) (on_left e f m n) k)
      (λ k. stays_under (edge_of e) (edge_of f) d re rf (x -ℤ pos 1 +ℤ pos 1) (on_right e f m n) k)
      (either (slope (edge_of f) (edge_of e) *ℤ (x -ℤ pos 1) +ℤ gap (edge_of f) (edge_of e)) (slope (edge_of f) (edge_of e) *ℤ (x -ℤ pos 1 +ℤ pos 1) +ℤ gap (edge_of f) (edge_of e)) above)
