-- The edges at a vertex, clockwise, by their other ends.
use Rattle.std.proofs.Common.{◌≡◌, ◌⊎◌, inl, inr, Bool, true, false, refl, sym, ap, ◌∙◌, arith, subst}
use lib.IntN.{ℤ, pos, ◌-ℤ◌, ◌*ℤ◌, neg_ℤ}
use lib.Signed.{◌<ℤ◌, lt_z}
use borrow.Author.Differences.{ints}
use Rattle.geom.specs.declared.point.Pt.{Pt}
use Rattle.geom.specs.declared.edge.Edge.{Edge}
use Rattle.geom.specs.Determinant.{side}
use Rattle.geom.specs.Order.{IsBefore}
use Rattle.geom.specs.Rings.{IsSooner, IsMetBefore}
use Rattle.geom.proofs.Edges.{before_cases, before_strict, edge_path, not_turned}
use Rattle.geom.proofs.Integers.{expand, linear}
use Rattle.points_law.proofs.Choices.{◌⊕◌, ◌∧∧◌, Ordered, is}
use Rattle.points_law.proofs.Even.{is_refl, is_same, clash}
use Rattle.points_law.proofs.Meet.{slope}
use Rattle.points_law.proofs.Turn.{before, ends_at, not_both, second_end}
use Rattle.points_law.proofs.Next.{between, majority}
use Rattle.points_law.proofs.Truth.{only_first, only_second, not_first}

-- e joins v and a
abbrev pub Joins : Pt → Pt → Edge → Type 0
Joins v a e = ((e.p ≡ v) × (e.q ≡ a)) ⊎ ((e.q ≡ v) × (e.p ≡ a))

pub in_order : (e : Edge) → Ordered e
in_order e = before_cases e.p e.q e.ordered

-- ---- which end v is
pub is_start : (v : Pt) (e : Edge) → e.p ≡ v → is v e.p ≡ true
is_start v e h = subst (λ w. is v w ≡ true) (sym h) (is_refl v)

pub is_stop : (v : Pt) (e : Edge) → e.q ≡ v → is v e.q ≡ true
is_stop v e h = subst (λ w. is v w ≡ true) (sym h) (is_refl v)

pub no_stop : (v : Pt) (e : Edge) → e.p ≡ v → is v e.q ≡ false
no_stop v e h = not_both e (in_order e) v (is_start v e h)

pub no_start : (v : Pt) (e : Edge) → e.q ≡ v → is v e.p ≡ false
no_start v e h = not_first (is v e.p) (is v e.q) (not_both e (in_order e) v) (is_stop v e h)

pub joins_ends : (v a : Pt) (e : Edge) → Joins v a e → ends_at v e ≡ true
joins_ends v a e (inl (h, k)) = only_first (is v e.p) (is v e.q) (is_start v e h) (no_stop v e h)
joins_ends v a e (inr (h, k)) = only_second (is v e.p) (is v e.q) (no_start v e h) (is_stop v e h)

pub record Spoke (v : Pt) (e : Edge) : Type 0 where
  pub end : Pt
  pub joins : Joins v end e

by_end : (v : Pt) (e : Edge) → ends_at v e ≡ true → (t : Bool) → is v e.p ≡ t → Spoke v e
by_end v e h true k = record { end = e.q; joins = inl (sym (is_same v e.p k), refl) }
by_end v e h false k = record { end = e.p; joins = inr (sym (is_same v e.q (second_end (is v e.p) (is v e.q) h k)), refl) }

pub spoke : (v : Pt) (e : Edge) → ends_at v e ≡ true → Spoke v e
spoke v e h = by_end v e h (is v e.p) refl

-- the edge that joins two points, and the points that an edge joins, are one
pub one_edge : (v a : Pt) (e f : Edge) → Joins v a e → Joins v a f → e ≡ f
one_edge v a e f (inl (h, k)) (inl (s, t)) = edge_path e f (h ∙ sym s) (k ∙ sym t)
one_edge v a e f (inl (h, k)) (inr (s, t)) = absurd (not_turned e f (h ∙ sym s) (k ∙ sym t))
one_edge v a e f (inr (h, k)) (inl (s, t)) = absurd (not_turned e f (k ∙ sym t) (h ∙ sym s))
one_edge v a e f (inr (h, k)) (inr (s, t)) = edge_path e f (k ∙ sym t) (h ∙ sym s)

loop : (e : Edge) → e.p ≡ e.q → ⊥
loop e h = let o = subst (λ (w : Pt). IsBefore e.p w) (sym h) e.ordered in before_strict e.p e.p o o

pub one_far : (v a b : Pt) (e : Edge) → Joins v a e → Joins v b e → a ≡ b
one_far v a b e (inl (h, k)) (inl (s, t)) = sym k ∙ t
one_far v a b e (inl (h, k)) (inr (s, t)) = absurd (loop e (h ∙ sym s))
one_far v a b e (inr (h, k)) (inl (s, t)) = absurd (loop e (s ∙ sym h))
one_far v a b e (inr (h, k)) (inr (s, t)) = sym k ∙ t

pub not_loop : (v a : Pt) (e : Edge) → Joins v a e → ¬ (a ≡ v)
not_loop v a e (inl (h, k)) l = loop e (h ∙ sym l ∙ sym k)
not_loop v a e (inr (h, k)) l = loop e (k ∙ l ∙ sym h)

-- ---- the order by slopes is that by determinants
abbrev steeper : Pt → Pt → Pt → Pt → ℤ
steeper p q s t = (t.x -ℤ s.x) *ℤ (q.y -ℤ p.y) -ℤ (q.x -ℤ p.x) *ℤ (t.y -ℤ s.y)

renamed : (p q s t p' q' s' t' : Pt) → p ≡ p' → q ≡ q' → s ≡ s' → t ≡ t' → steeper p q s t ≡ steeper p' q' s' t'
renamed p q s t p' q' s' t' h i j k = ap (λ (w : Pt). steeper w q s t) h ∙ ap (λ (w : Pt). steeper p' w s t) i ∙ ap (λ (w : Pt). steeper p' q' w t) j ∙ ap (λ (w : Pt). steeper p' q' s' w) k

out_side : (vx vy ax ay bx by : ℤ) → (bx -ℤ vx) *ℤ (ay -ℤ vy) -ℤ (ax -ℤ vx) *ℤ (by -ℤ vy) ≡ neg_ℤ (((ax -ℤ vx) *ℤ (by -ℤ vy)) -ℤ ((ay -ℤ vy) *ℤ (bx -ℤ vx)))
out_side vx vy ax ay bx by = simp expand (omega (arith, linear))

in_side : (vx vy ax ay bx by : ℤ) → (vx -ℤ bx) *ℤ (vy -ℤ ay) -ℤ (vx -ℤ ax) *ℤ (vy -ℤ by) ≡ neg_ℤ (((ax -ℤ vx) *ℤ (by -ℤ vy)) -ℤ ((ay -ℤ vy) *ℤ (bx -ℤ vx)))
in_side vx vy ax ay bx by = simp expand (omega (arith, linear))

pub slope_out : (v a b : Pt) (f g : Edge) → f.p ≡ v → f.q ≡ a → g.p ≡ v → g.q ≡ b → slope f g ≡ neg_ℤ (side v a b)
slope_out v a b f g h i j k = renamed f.p f.q g.p g.q v a v b h i j k ∙ out_side v.x v.y a.x a.y b.x b.y

pub slope_in : (v a b : Pt) (f g : Edge) → f.q ≡ v → f.p ≡ a → g.q ≡ v → g.p ≡ b → slope f g ≡ neg_ℤ (side v a b)
slope_in v a b f g h i j k = renamed f.p f.q g.p g.q a v b v i h k j ∙ in_side v.x v.y a.x a.y b.x b.y

below_zero : (s d : ℤ) → s ≡ neg_ℤ d → lt_z (pos 0) s ≡ true → d <ℤ pos 0
below_zero s d h k = omega (arith, ints)

above_zero : (s d : ℤ) → s ≡ neg_ℤ d → d <ℤ pos 0 → lt_z (pos 0) s ≡ true
above_zero s d h k = grind (arith, ints)

-- ---- an edge comes before another one, clockwise, where its far end is met sooner
pub goes_out : (v a : Pt) (e : Edge) → e.p ≡ v → e.q ≡ a → IsBefore v a
goes_out v a e h k = subst (λ w. IsBefore w a) h (subst (λ w. IsBefore e.p w) k e.ordered)

pub comes_in : (v a : Pt) (e : Edge) → e.q ≡ v → e.p ≡ a → IsBefore a v
comes_in v a e h k = subst (λ w. IsBefore w v) k (subst (λ w. IsBefore e.p w) h e.ordered)

out_out : (pf qf pg qg s : Bool) → pf ≡ true → qf ≡ false → pg ≡ true → qg ≡ false → (pf ∧∧ qg) ⊕ ((pf ∧∧ pg ⊕ qf ∧∧ qg) ∧∧ s) ≡ s
out_out pf qf pg qg s h i j k = grind arith

out_in : (pf qf pg qg s : Bool) → pf ≡ true → qf ≡ false → pg ≡ false → qg ≡ true → (pf ∧∧ qg) ⊕ ((pf ∧∧ pg ⊕ qf ∧∧ qg) ∧∧ s) ≡ true
out_in pf qf pg qg s h i j k = grind arith

in_out : (pf qf pg qg s : Bool) → pf ≡ false → qf ≡ true → pg ≡ true → qg ≡ false → (pf ∧∧ qg) ⊕ ((pf ∧∧ pg ⊕ qf ∧∧ qg) ∧∧ s) ≡ false
in_out pf qf pg qg s h i j k = grind arith

in_in : (pf qf pg qg s : Bool) → pf ≡ false → qf ≡ true → pg ≡ false → qg ≡ true → (pf ∧∧ qg) ⊕ ((pf ∧∧ pg ⊕ qf ∧∧ qg) ∧∧ s) ≡ s
in_in pf qf pg qg s h i j k = grind arith

module _ (v a b : Pt) (f g : Edge) where
  both_out : f.p ≡ v → g.p ≡ v → before v f g ≡ lt_z (pos 0) (slope f g)
  both_out h k = out_out (is v f.p) (is v f.q) (is v g.p) (is v g.q) (lt_z (pos 0) (slope f g)) (is_start v f h) (no_stop v f h) (is_start v g k) (no_stop v g k)

  both_in : f.q ≡ v → g.q ≡ v → before v f g ≡ lt_z (pos 0) (slope f g)
  both_in h k = in_in (is v f.p) (is v f.q) (is v g.p) (is v g.q) (lt_z (pos 0) (slope f g)) (no_start v f h) (is_stop v f h) (no_start v g k) (is_stop v g k)

  first_out : f.p ≡ v → g.q ≡ v → before v f g ≡ true
  first_out h k = out_in (is v f.p) (is v f.q) (is v g.p) (is v g.q) (lt_z (pos 0) (slope f g)) (is_start v f h) (no_stop v f h) (no_start v g k) (is_stop v g k)

  first_in : f.q ≡ v → g.p ≡ v → before v f g ≡ false
  first_in h k = in_out (is v f.p) (is v f.q) (is v g.p) (is v g.q) (lt_z (pos 0) (slope f g)) (no_start v f h) (is_stop v f h) (is_start v g k) (no_stop v g k)

  pub sooner_of : Joins v a f → Joins v b g → before v f g ≡ true → IsSooner v a b
  sooner_of (inl (h, i)) (inl (j, k)) t = inr (inl (goes_out v a f h i, goes_out v b g j k), below_zero (slope f g) (side v a b) (slope_out v a b f g h i j k) (sym (both_out h j) ∙ t))
  sooner_of (inl (h, i)) (inr (j, k)) t = inl (goes_out v a f h i, comes_in v b g j k)
  sooner_of (inr (h, i)) (inl (j, k)) t = clash (before v f g) (first_in h j) t
  sooner_of (inr (h, i)) (inr (j, k)) t = inr (inr (comes_in v a f h i, comes_in v b g j k), below_zero (slope f g) (side v a b) (slope_in v a b f g h i j k) (sym (both_in h j) ∙ t))

  pub before_of : Joins v a f → Joins v b g → IsSooner v a b → before v f g ≡ true
  before_of (inl (h, i)) (inl (j, k)) (inl (l, m)) = absurd (before_strict b v m (goes_out v b g j k))
  before_of (inl (h, i)) (inl (j, k)) (inr (l, m)) = both_out h j ∙ above_zero (slope f g) (side v a b) (slope_out v a b f g h i j k) m
  before_of (inl (h, i)) (inr (j, k)) s = first_out h j
  before_of (inr (h, i)) (inl (j, k)) (inl (l, m)) = absurd (before_strict b v m (goes_out v b g j k))
  before_of (inr (h, i)) (inl (j, k)) (inr (inl (l, m), n)) = absurd (before_strict v a l (comes_in v a f h i))
  before_of (inr (h, i)) (inl (j, k)) (inr (inr (l, m), n)) = absurd (before_strict b v m (goes_out v b g j k))
  before_of (inr (h, i)) (inr (j, k)) (inl (l, m)) = absurd (before_strict v a l (comes_in v a f h i))
  before_of (inr (h, i)) (inr (j, k)) (inr (l, m)) = both_in h j ∙ above_zero (slope f g) (side v a b) (slope_in v a b f g h i j k) m

-- ---- and so for three
two_of : (x y z : Bool) → (x ∧∧ y ⊕ y ∧∧ z) ⊕ z ∧∧ x ≡ true → ((x ≡ true) × (y ≡ true)) ⊎ ((y ≡ true) × (z ≡ true)) ⊎ ((z ≡ true) × (x ≡ true))
two_of true true z h = inl (refl, refl)
two_of true false true h = inr (inr (refl, refl))
two_of true false false h = absurd (let e : false ≡ true = h in cc)
two_of false true true h = inr (inl (refl, refl))
two_of false true false h = absurd (let e : false ≡ true = h in cc)
two_of false false true h = absurd (let e : false ≡ true = h in cc)
two_of false false false h = absurd (let e : false ≡ true = h in cc)

-- one way round at most: two of the three and two of the other three never go together
two_xy : (x y z : Bool) → x ≡ true → y ≡ true → majority x y z ≡ true
two_xy x y z h k = grind arith

two_yz : (x y z : Bool) → y ≡ true → z ≡ true → majority x y z ≡ true
two_yz x y z h k = grind arith

two_zx : (x y z : Bool) → z ≡ true → x ≡ true → majority x y z ≡ true
two_zx x y z h k = grind arith

module _ (v u a b : Pt) (e f g : Edge) (i : Joins v u e) (j : Joins v a f) (k : Joins v b g) where
  met : ((before v e f ≡ true) × (before v f g ≡ true)) ⊎ ((before v f g ≡ true) × (before v g e ≡ true)) ⊎ ((before v g e ≡ true) × (before v e f ≡ true)) → IsMetBefore v u a b
  met (inl (s, t)) = inl (sooner_of v u a e f i j s, sooner_of v a b f g j k t)
  met (inr (inl (s, t))) = inr (inl (sooner_of v a b f g j k s, sooner_of v b u g e k i t))
  met (inr (inr (s, t))) = inr (inr (sooner_of v b u g e k i s, sooner_of v u a e f i j t))

  pub met_before : between v e f g ≡ true → IsMetBefore v u a b
  met_before h = met (two_of (before v e f) (before v f g) (before v g e) h)

  pub between_of : IsMetBefore v u a b → between v e f g ≡ true
  between_of (inl (s, t)) = two_xy (before v e f) (before v f g) (before v g e) (before_of v u a e f i j s) (before_of v a b f g j k t)
  between_of (inr (inl (s, t))) = two_yz (before v e f) (before v f g) (before v g e) (before_of v a b f g j k s) (before_of v b u g e k i t)
  between_of (inr (inr (s, t))) = two_zx (before v e f) (before v f g) (before v g e) (before_of v b u g e k i s) (before_of v u a e f i j t)
