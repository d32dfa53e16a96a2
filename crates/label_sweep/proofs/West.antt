-- The parity just left of a vertex is that under the lowest edge above it; turning from there, each edge's left side has the parity of the right side of the one before.
use mathlib.Core.Path.{◌≡◌, refl, sym, ◌∙◌, ap, subst}
use mathlib.Core.Bool.{Bool, true, false}
use mathlib.Core.List.{List}
use mathlib.Core.Logic.{◌⊎◌, inl, inr}
use native.Mathlib.Omega.{arith}
use lib.IntN.{ℤ, pos, ◌+ℤ◌, ◌-ℤ◌, ◌*ℤ◌}
use lib.Signed.{◌<ℤ◌, ◌≤ℤ◌, lt_z}
use borrow.Author.Differences.{ints}
use Rattle.geom.specs.declared.point.Pt.{Pt}
use Rattle.geom.specs.declared.edge.Edge.{Edge}
use Rattle.geom.proofs.Lists.{In}
use Rattle.geom.proofs.Integers.{expand, linear}
use Rattle.geom.proofs.Numbers.{weak, below_successor, past_predecessor}
use Rattle.geom.proofs.Tests.{lt_z_told}
use Rattle.points_law.proofs.Choices.{◌⊕◌, ◌∧∧◌, par, run, rise, MeetAtEnds, Noded, Even, is, parity, left, right}
use Rattle.points_law.proofs.ResultOfChoices.{Edges}
use Rattle.points_law.proofs.Meet.{off, slope, gap}
use Rattle.points_law.proofs.Sums.{par_cong, par_xor, par_none}
use Rattle.points_law.proofs.Even.{both_ways, is_same, is_refl, same, same_is, same_refl, not_true, once}
use Rattle.points_law.proofs.Sign.{twice, not_zero, stays_up}
use Rattle.points_law.proofs.Column.{cv, ab, cv_low, cv_high, cv_run, differ, no_root, among, not_above_itself, one_above}
use Rattle.points_law.proofs.Vertex.{over_pt, higher, west, slopes, EndsAt, Vertex, vertex_end, on_sloping, back_low, back_high}
use Rattle.points_law.proofs.Turn.{sloping_right, turned_p, at_p, crossing, before, itself_flat}
use Rattle.points_law.proofs.Heights.{is_positive}
use Rattle.label_sweep.specs.Status.{rise_over, IsUnder}
use Rattle.label_sweep.proofs.Order.{rise_is, pos_both}

-- ---- an edge in whose range v lies ends at v where v is neither below nor above it
pub ends_there : (es : List Edge) → Noded es → (v : Pt) → Vertex es v → (f : Edge) → In f es → pos 0 <ℤ run f → f.p.x ≤ℤ v.x → v.x ≤ℤ f.q.x → over_pt f v ≡ pos 0 → EndsAt f v
ends_there es n v h f i r a b z = vertex_end es n v h f i (on_sloping f v r a b z)

-- ---- tests
back : (x : ℤ) → x -ℤ pos 1 +ℤ pos 1 ≡ x
back x = omega (arith, ints)

sum_pos : (a b : ℤ) → pos 0 ≤ℤ a → pos 0 ≤ℤ b → ¬ (a +ℤ b ≡ pos 0) → pos 0 <ℤ (a +ℤ b)
sum_pos a b h i n = grind (arith, ints)

-- g is above f in the column left of v where g is above v, if f is the lowest such edge
pub ab_of : (f g : Edge) (v : Pt) → MeetAtEnds f g → cv f (v.x -ℤ pos 1) ≡ true → cv g (v.x -ℤ pos 1) ≡ true → IsUnder f g → ab g f (v.x -ℤ pos 1) ≡ true
ab_of f g v m i j u = is_positive (twice (slope g f) (gap g f) (v.x -ℤ pos 1))
    (sum_pos (slope g f *ℤ (v.x -ℤ pos 1) +ℤ gap g f) (slope g f *ℤ (v.x -ℤ pos 1 +ℤ pos 1) +ℤ gap g f)
    (subst (λ (t : ℤ). pos 0 ≤ℤ t) (rise_is g f (v.x -ℤ pos 1)) (u (v.x -ℤ pos 1) (cv_low f _ i) (weak _ _ (cv_high f _ i)) (cv_low g _ j) (weak _ _ (cv_high g _ j))))
    (subst (λ (t : ℤ). pos 0 ≤ℤ t) (rise_is g f (v.x -ℤ pos 1 +ℤ pos 1))
    (subst (λ (t : ℤ). pos 0 ≤ℤ rise_over g f t) (sym (back v.x)) (u v.x (below_successor f.p.x v.x (cv_low f _ i)) (past_predecessor v.x f.q.x (cv_high f _ i)) (below_successor g.p.x v.x (cv_low g _ j)) (past_predecessor v.x g.q.x (cv_high g _ j)))))
    (not_zero (slope g f) (gap g f) (v.x -ℤ pos 1) (no_root f g (v.x -ℤ pos 1) m i j)))

-- ---- of two edges in a column one is above the other
after_first : (s t : Bool) → s ⊕ t ≡ true → s ≡ true → t ≡ false
after_first s t h i = grind arith

pub not_both : (b : Bool) → b ≡ true → b ≡ false → ⊥
not_both b h i = grind arith

pub not_above : (es : List Edge) → Noded es → (k : ℤ) (e f : Edge) → In e es → In f es → cv e k ≡ true → cv f k ≡ true → ab e f k ≡ true → ab f e k ≡ false
not_above es n k e f i j c d u = after_first (ab e f k) (ab f e k)
    (one_above f e k (n f e j i (λ q. not_both (ab e e k) (let P : Edge → Type 0 = λ g. ab e g k ≡ true in subst P q u) (not_above_itself e k))) d c) u

lifts : (re rf se sf oe of x y : ℤ) → re *ℤ ((sf *ℤ x +ℤ of) -ℤ rf *ℤ y) ≡ ((re *ℤ sf -ℤ rf *ℤ se) *ℤ x +ℤ (re *ℤ of -ℤ rf *ℤ oe) *ℤ pos 1) +ℤ rf *ℤ ((se *ℤ x +ℤ oe) -ℤ re *ℤ y)
lifts re rf se sf oe of x y = simp expand (omega (arith, linear))

higher_of : (f g : Edge) (v : Pt) → MeetAtEnds f g → cv f (v.x -ℤ pos 1) ≡ true → cv g (v.x -ℤ pos 1) ≡ true → pos 0 <ℤ over_pt f v → ab g f (v.x -ℤ pos 1) ≡ true → higher g v ≡ true
higher_of f g v m i j h u = is_positive (over_pt g v) (pos_both (run f) (over_pt g v) (slope g f *ℤ v.x +ℤ gap g f *ℤ pos 1) (run g) (over_pt f v) (cv_run f _ i) (cv_run g _ j)
    (stays_up (slope g f) (gap g f) (v.x -ℤ pos 1) v.x (pos 1) (no_root f g (v.x -ℤ pos 1) m i j) (lt_z_told (pos 0) _ u) (back_low v.x) (back_high v.x))
    (lifts (run f) (run g) (rise f) (rise g) (off f) (off g) v.x v.y) h)

pub own_term : (a c u w s : Bool) → c ≡ true → u ≡ true → w ≡ false → s ≡ true → a ∧∧ (c ∧∧ u) ≡ (a ∧∧ (c ∧∧ w)) ⊕ (s ∧∧ a)
own_term a c u w s h i j k = grind arith

pub other_term : (a c u w s : Bool) → (c ≡ true → u ≡ w) → s ≡ false → a ∧∧ (c ∧∧ u) ≡ (a ∧∧ (c ∧∧ w)) ⊕ (s ∧∧ a)
other_term a c u w s h k = grind arith

-- f is the lowest edge above v of those that reach v's column from the left
pub record Lowest (es : List Edge) (v : Pt) (f : Edge) : Type 0 where
  pub inside : In f es
  pub reaches : cv f (v.x -ℤ pos 1) ≡ true
  pub above : pos 0 <ℤ over_pt f v
  pub least : (g : Edge) → In g es → cv g (v.x -ℤ pos 1) ≡ true → pos 0 <ℤ over_pt g v → IsUnder f g

west_each : (es : List Edge) → Noded es → (a : Edge → Bool) (v : Pt) (f : Edge) → Lowest es v f → (g : Edge) → In g es → (t : Bool) → same f g ≡ t
    → a g ∧∧ (cv g (v.x -ℤ pos 1) ∧∧ higher g v) ≡ (a g ∧∧ (cv g (v.x -ℤ pos 1) ∧∧ ab g f (v.x -ℤ pos 1))) ⊕ (same g f ∧∧ a g)
west_each es n a v f l g i true s = subst (λ z. a z ∧∧ (cv z (v.x -ℤ pos 1) ∧∧ higher z v) ≡ (a z ∧∧ (cv z (v.x -ℤ pos 1) ∧∧ ab z f (v.x -ℤ pos 1))) ⊕ (same z f ∧∧ a z)) (same_is f g s)
    (own_term (a f) (cv f (v.x -ℤ pos 1)) (higher f v) (ab f f (v.x -ℤ pos 1)) (same f f) l.reaches (is_positive (over_pt f v) l.above) (not_above_itself f (v.x -ℤ pos 1)) (same_refl f))
west_each es n a v f l g i false s = other_term (a g) (cv g (v.x -ℤ pos 1)) (higher g v) (ab g f (v.x -ℤ pos 1)) (same g f)
    (λ c. both_ways (higher g v) (ab g f (v.x -ℤ pos 1))
    (λ h. ab_of f g v (n f g l.inside i (differ f g s)) l.reaches c (l.least g i c (lt_z_told (pos 0) (over_pt g v) h)))
    (λ h. higher_of f g v (n f g l.inside i (differ f g s)) l.reaches c l.above h))
    (not_true (same g f) (λ h. differ f g s (sym (same_is g f h))))

-- the parity just left of v is that on the right of the lowest edge above v
pub west_lowest : (es : List Edge) → Edges es → (a : Edge → Bool) → Even a es → (v : Pt) (f : Edge) → Lowest es v f → west a es v ≡ parity a es (right f)
west_lowest es h a ev v f l =
    par_cong (λ g. a g ∧∧ (cv g (v.x -ℤ pos 1) ∧∧ higher g v)) (λ g. (a g ∧∧ (cv g (v.x -ℤ pos 1) ∧∧ ab g f (v.x -ℤ pos 1))) ⊕ (same g f ∧∧ a g)) es
    (λ g i. west_each es h.noded a v f l g i (same f g) refl)
    ∙ sym (par_xor (λ g. a g ∧∧ (cv g (v.x -ℤ pos 1) ∧∧ ab g f (v.x -ℤ pos 1))) (λ g. same g f ∧∧ a g) es)
    ∙ ap (λ (t : Bool). among a es f (v.x -ℤ pos 1) ⊕ t) (once es h.distinct a f l.inside)
    ∙ sym (sloping_right es h a ev f l.inside (v.x -ℤ pos 1) l.reaches)

pub none_term : (a c u : Bool) → (c ≡ true → u ≡ true → ⊥) → a ∧∧ (c ∧∧ u) ≡ false
none_term a c u h = grind arith

-- and even where there is none
pub west_none : (es : List Edge) → (a : Edge → Bool) → (v : Pt) → ((g : Edge) → In g es → cv g (v.x -ℤ pos 1) ≡ true → pos 0 <ℤ over_pt g v → ⊥) → west a es v ≡ false
west_none es a v n = par_cong (λ g. a g ∧∧ (cv g (v.x -ℤ pos 1) ∧∧ higher g v)) (λ g. false) es
    (λ g i. none_term (a g) (cv g (v.x -ℤ pos 1)) (higher g v) (λ c u. n g i c (lt_z_told (pos 0) (over_pt g v) u))) ∙ par_none es

-- ---- turning from straight up, clockwise, over the edges that begin at v
pub stay : (x y : Bool) → y ≡ false → x ⊕ y ≡ x
stay x y h = grind arith

-- nothing that begins at g.p is steeper than g
pub first_turn : (es : List Edge) → Edges es → (a : Edge → Bool) → Even a es → (g : Edge) → In g es → ((f : Edge) → In f es → f.p ≡ g.p → pos 0 <ℤ slope f g → ⊥)
    → parity a es (left g) ≡ west a es g.p
first_turn es h a ev g i n = turned_p es h a ev g i (slopes g) refl
    ∙ stay (west a es g.p) (par (λ f. a f ∧∧ before g.p f g) es)
    (par_cong (λ f. a f ∧∧ before g.p f g) (λ f. false) es
    (λ f j. ap (λ (t : Bool). a f ∧∧ t) (at_p g f (h.ordered g i)) ∙ none_term (a f) (is g.p f.p) (lt_z (pos 0) (slope f g)) (λ k s. n f j (sym (is_same g.p f.p k)) (lt_z_told (pos 0) (slope f g) s)))
    ∙ par_none es)

-- g comes right before k, turning
pub record Next (es : List Edge) (g k : Edge) : Type 0 where
  pub begins : g.p ≡ k.p
  pub before : pos 0 <ℤ slope g k
  pub up : (f : Edge) → In f es → f.p ≡ k.p → pos 0 <ℤ slope f g → pos 0 <ℤ slope f k
  pub down : (f : Edge) → In f es → f.p ≡ k.p → pos 0 <ℤ slope f k → (f ≡ g) ⊎ (pos 0 <ℤ slope f g)

next_each : (es : List Edge) → Edges es → (a : Edge → Bool) (g k : Edge) → Next es g k → (f : Edge) → In f es → (t : Bool) → same g f ≡ t
    → a f ∧∧ (is k.p f.p ∧∧ lt_z (pos 0) (slope f k)) ≡ (a f ∧∧ (is k.p f.p ∧∧ lt_z (pos 0) (slope f g))) ⊕ (same f g ∧∧ a f)
next_each es h a g k n f j true s = subst (λ z. a z ∧∧ (is k.p z.p ∧∧ lt_z (pos 0) (slope z k)) ≡ (a z ∧∧ (is k.p z.p ∧∧ lt_z (pos 0) (slope z g))) ⊕ (same z g ∧∧ a z)) (same_is g f s)
    (own_term (a g) (is k.p g.p) (lt_z (pos 0) (slope g k)) (lt_z (pos 0) (slope g g)) (same g g)
    (subst (λ w. is k.p w ≡ true) (sym n.begins) (is_refl k.p)) (is_positive (slope g k) n.before) (itself_flat g) (same_refl g))
next_each es h a g k n f j false s = other_term (a f) (is k.p f.p) (lt_z (pos 0) (slope f k)) (lt_z (pos 0) (slope f g)) (same f g)
    (λ b. both_ways (lt_z (pos 0) (slope f k)) (lt_z (pos 0) (slope f g))
    (λ t. is_positive (slope f g) (other (n.down f j (sym (is_same k.p f.p b)) (lt_z_told (pos 0) (slope f k) t))))
    (λ t. is_positive (slope f k) (n.up f j (sym (is_same k.p f.p b)) (lt_z_told (pos 0) (slope f g) t))))
    (not_true (same f g) (λ e. differ g f s (sym (same_is f g e))))
  where
    other : (f ≡ g) ⊎ (pos 0 <ℤ slope f g) → pos 0 <ℤ slope f g
    other (inl e) = absurd (differ g f s (sym e))
    other (inr t) = t

regroup : (x y z w : Bool) → w ≡ y ⊕ z → x ⊕ w ≡ (x ⊕ y) ⊕ z
regroup x y z w h = grind arith

-- the parity on the left of k is that on the right of the edge before it
pub next_turn : (es : List Edge) → Edges es → (a : Edge → Bool) → Even a es → (g k : Edge) → In g es → In k es → Next es g k → parity a es (left k) ≡ parity a es (right g)
next_turn es h a ev g k i j n =
    turned_p es h a ev k j (slopes k) refl
    ∙ ap (λ (t : Bool). west a es k.p ⊕ t)
    (par_cong (λ f. a f ∧∧ before k.p f k) (λ f. a f ∧∧ (is k.p f.p ∧∧ lt_z (pos 0) (slope f k))) es (λ f l. ap (λ (t : Bool). a f ∧∧ t) (at_p k f (h.ordered k j))))
    ∙ regroup (west a es k.p) (par (λ f. a f ∧∧ (is k.p f.p ∧∧ lt_z (pos 0) (slope f g))) es) (a g) (par (λ f. a f ∧∧ (is k.p f.p ∧∧ lt_z (pos 0) (slope f k))) es)
    (par_cong (λ f. a f ∧∧ (is k.p f.p ∧∧ lt_z (pos 0) (slope f k))) (λ f. (a f ∧∧ (is k.p f.p ∧∧ lt_z (pos 0) (slope f g))) ⊕ (same f g ∧∧ a f)) es (λ f l. next_each es h a g k n f l (same g f) refl)
    ∙ sym (par_xor (λ f. a f ∧∧ (is k.p f.p ∧∧ lt_z (pos 0) (slope f g))) (λ f. same f g ∧∧ a f) es)
    ∙ ap (λ (t : Bool). par (λ f. a f ∧∧ (is k.p f.p ∧∧ lt_z (pos 0) (slope f g))) es ⊕ t) (once es h.distinct a g i))
    ∙ ap (λ (t : Bool). t ⊕ a g) (there k.p n.begins)
    ∙ sym (crossing es h a ev g i)
  where
    there : (w : Pt) → g.p ≡ w → west a es w ⊕ par (λ f. a f ∧∧ (is w f.p ∧∧ lt_z (pos 0) (slope f g))) es ≡ parity a es (left g)
    there w e = subst (λ u. west a es u ⊕ par (λ f. a f ∧∧ (is u f.p ∧∧ lt_z (pos 0) (slope f g))) es ≡ parity a es (left g)) e
        (sym (turned_p es h a ev g i (slopes g) refl
        ∙ ap (λ (t : Bool). west a es g.p ⊕ t) (par_cong (λ f. a f ∧∧ before g.p f g) (λ f. a f ∧∧ (is g.p f.p ∧∧ lt_z (pos 0) (slope f g))) es (λ f l. ap (λ (t : Bool). a f ∧∧ t) (at_p g f (h.ordered g i))))))
