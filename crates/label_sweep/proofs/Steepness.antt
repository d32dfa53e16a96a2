-- Steepness is an order in which any two edges compare, wherever they begin.
use Rattle.std.proofs.Common.{◌≡◌, ⊎_elim, Bool, true, false, int_lt, sym, ap, ◌∙◌, subst, arith}
use Rattle.std.specs.Cmp.{IsStrictWeakOrder}
use Rattle.std.specs.Prelude.{pos, ◌<ℤ◌, ◌≤ℤ◌}
use Rattle.std.proofs.Math.IntN.{ℤ, ◌-ℤ◌, ◌+ℤ◌, ◌*ℤ◌, neg_ℤ}
use Rattle.std.proofs.lemmas.Int.{ints}
use Rattle.geom.specs.declared.edge.Edge.{Edge}
use Rattle.geom.proofs.Edges.{before_cases}
use Rattle.geom.proofs.Integers.{none_left, mul_neg, mul_pos, mul_nonneg, by_sign}
use Rattle.geom.proofs.Numbers.{negated_is_nonneg, never_negative, nonneg, strict_gap_is}
use Rattle.points_law.proofs.Choices.{run, rise}
use Rattle.points_law.proofs.Meet.{slope}
use Rattle.points_law.proofs.Turn.{run_low}
use Rattle.points_law.proofs.Next.{chain}
use Rattle.label_sweep.specs.declared.standing.Spoke.{Spoke}
use Rattle.label_sweep.specs.Status.{is_steeper}
use Rattle.label_sweep.proofs.Words.{turn_is}

-- the test by which they are sorted
abbrev pub comes_first : Spoke → Spoke → Bool
comes_first s t = is_steeper s.one.edge t.one.edge

-- ---- the test and the relation
pub passed : (x : ℤ) → int_lt (pos 0) x ≡ true → pos 0 <ℤ x
passed x h = omega (arith, ints)

fails : (x : ℤ) → x ≤ℤ pos 0 → int_lt (pos 0) x ≡ false
fails x h = grind (arith, ints)

failed : (x : ℤ) → int_lt (pos 0) x ≡ false → x ≤ℤ pos 0
failed x h = omega (arith, ints)

slope_of : (f g : Edge) → is_steeper f g ≡ true → pos 0 <ℤ slope f g
slope_of f g h = subst (λ (t : ℤ). pos 0 <ℤ t) (turn_is (run f) (rise f) (run g) (rise g)) (passed _ h)

no_slope_of : (f g : Edge) → is_steeper f g ≡ false → slope f g ≤ℤ pos 0
no_slope_of f g h = subst (λ (t : ℤ). t ≤ℤ pos 0) (turn_is (run f) (rise f) (run g) (rise g)) (failed _ h)

of_no_slope : (f g : Edge) → slope f g ≤ℤ pos 0 → is_steeper f g ≡ false
of_no_slope f g h = fails _ (subst (λ (t : ℤ). t ≤ℤ pos 0) (sym (turn_is (run f) (rise f) (run g) (rise g))) h)

-- ---- an order in which any two edges compare, wherever they begin
turns_back : (rf sf rg sg : ℤ) → pos 0 <ℤ (rg *ℤ sf -ℤ rf *ℤ sg) → (rf *ℤ sg -ℤ rg *ℤ sf) ≤ℤ pos 0
turns_back rf sf rg sg h = omega (arith, ints)

pub under : (r a : ℤ) → pos 0 ≤ℤ r → a ≤ℤ pos 0 → (r *ℤ a) ≤ℤ pos 0
under r a h i = back (r *ℤ a) (subst (λ (t : ℤ). pos 0 ≤ℤ t) (mul_neg r a) (mul_nonneg r (neg_ℤ a) h (negated_is_nonneg a i)))
  where
    back : (a : ℤ) → pos 0 ≤ℤ neg_ℤ a → a ≤ℤ pos 0
    back a h = omega (arith, ints)

pub sloping_between : (re c x y : ℤ) → pos 0 <ℤ re → re *ℤ c ≡ x +ℤ y → x ≤ℤ pos 0 → y ≤ℤ pos 0 → c ≤ℤ pos 0
sloping_between re c x y h e i j = by_sign c (λ s. weak c s) (λ s. none c s) (λ s. absurd (clash (re *ℤ c) x y e i j (mul_pos re c h s)))
  where
    weak : (c : ℤ) → c <ℤ pos 0 → c ≤ℤ pos 0
    weak c s = omega (arith, ints)

    none : (c : ℤ) → c ≡ pos 0 → c ≤ℤ pos 0
    none c s = omega (arith, ints)

    clash : (p x y : ℤ) → p ≡ x +ℤ y → x ≤ℤ pos 0 → y ≤ℤ pos 0 → pos 0 <ℤ p → ⊥
    clash p x y e i j k = omega (arith, ints)

upright_between : (rf re rg sf se sg : ℤ) → re ≡ pos 0 → pos 0 <ℤ se → pos 0 ≤ℤ rf → pos 0 ≤ℤ rg → (rg ≡ pos 0 → pos 0 <ℤ sg) → (rg *ℤ se -ℤ re *ℤ sg) ≤ℤ pos 0 → (rg *ℤ sf -ℤ rf *ℤ sg) ≤ℤ pos 0
upright_between rf re rg sf se sg e h i j k l = by_sign rg (λ s. absurd (never_negative rg j s))
    (λ s. level (rg *ℤ sf) (rf *ℤ sg) (ap (λ (t : ℤ). t *ℤ sf) s ∙ none_left sf) (mul_nonneg rf sg i (nonneg sg (k s))))
    (λ s. absurd (clash (rg *ℤ se) (re *ℤ sg) (mul_pos rg se s h) (ap (λ (t : ℤ). t *ℤ sg) e ∙ none_left sg) l))
  where
    level : (a b : ℤ) → a ≡ pos 0 → pos 0 ≤ℤ b → (a -ℤ b) ≤ℤ pos 0
    level a b e h = omega (arith, ints)

    clash : (a b : ℤ) → pos 0 <ℤ a → b ≡ pos 0 → (a -ℤ b) ≤ℤ pos 0 → ⊥
    clash a b h e l = omega (arith, ints)

runs : (e : Edge) → pos 0 ≤ℤ run e
runs e = run_low e (before_cases e.p e.q e.ordered)

rises : (e : Edge) → run e ≡ pos 0 → pos 0 <ℤ rise e
rises e z = ⊎_elim (λ l. absurd (clash e.p.x e.q.x l z)) (λ l. strict_gap_is e.p.y e.q.y l.1) (before_cases e.p e.q e.ordered)
  where
    clash : (p q : ℤ) → p <ℤ q → q -ℤ p ≡ pos 0 → ⊥
    clash p q h z = omega (arith, ints)

not_steeper_through : (f e g : Edge) → slope f e ≤ℤ pos 0 → slope e g ≤ℤ pos 0 → slope f g ≤ℤ pos 0
not_steeper_through f e g h i = by_sign (run e) (λ s. absurd (never_negative (run e) (runs e) s))
    (λ s. upright_between (run f) (run e) (run g) (rise f) (rise e) (rise g) s (rises e s) (runs f) (runs g) (rises g) i)
    (λ s. sloping_between (run e) (slope f g) (run f *ℤ slope e g) (run g *ℤ slope f e) s (chain (run f) (run e) (run g) (rise f) (rise e) (rise g)) (under (run f) (slope e g) (runs f) i) (under (run g) (slope f e) (runs g) h))

pub steepness : IsStrictWeakOrder comes_first
steepness = record {
  one_way = λ s t h. of_no_slope t.one.edge s.one.edge (turns_back (run s.one.edge) (rise s.one.edge) (run t.one.edge) (rise t.one.edge) (slope_of s.one.edge t.one.edge h));
  chain = λ s t u h k. of_no_slope s.one.edge u.one.edge (not_steeper_through s.one.edge t.one.edge u.one.edge (no_slope_of s.one.edge t.one.edge h) (no_slope_of t.one.edge u.one.edge k));
}
