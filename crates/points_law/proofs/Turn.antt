-- Turning clockwise round a vertex: the parity changes exactly at the chosen edges, and an even number of result edges ends at each point.
use mathlib.Core.Path.{◌≡◌, refl, sym, ◌∙◌, ap, subst}
use mathlib.Core.Bool.{Bool, true, false, not, false≢true}
use mathlib.Core.List.{List}
use mathlib.Core.Logic.{inl, inr}
use native.Mathlib.Omega.{arith}
use Rattle.std.proofs.lemmas.Int.{by_lt_z}
use lib.IntN.{ℤ, pos, ◌-ℤ◌, ◌*ℤ◌, neg_ℤ}
use lib.Signed.{◌<ℤ◌, ◌≤ℤ◌, lt_z, le_z}
use borrow.Author.Differences.{ints}
use Rattle.geom.specs.declared.point.Pt.{Pt}
use Rattle.geom.specs.declared.edge.Edge.{Edge}
use Rattle.geom.proofs.Lists.{In}
use Rattle.geom.proofs.Edges.{edge_path}
use Rattle.points_law.proofs.Choices.{◌⊕◌, ◌∧∧◌, par, run, rise, Ordered, Noded, Even, is, parity, left, right, in_result}
use Rattle.points_law.proofs.ResultOfChoices.{Edges}
use Rattle.geom.proofs.Integers.{expand, linear, mul_pos, mul_nonneg}
use Rattle.geom.proofs.Numbers.{weak}
use Rattle.geom.proofs.Tests.{lt_z_told}
use Rattle.points_law.proofs.Meet.{off, slope}
use Rattle.points_law.proofs.Sums.{par_cong, par_xor, par_none, over, jump, walk, and_comm}
use Rattle.points_law.proofs.Even.{both_ways, and_left, and_right, is_same, is_refl, same, same_is, same_refl, not_true, once}
use Rattle.points_law.proofs.Sign.{twice}
use Rattle.points_law.proofs.Column.{cv, ab, cv_run, among, anywhere, one_above, not_above_itself, differ}
use Rattle.points_law.proofs.Heights.{column, is_positive}
use Rattle.points_law.proofs.Result.{no_jump, same_jump, keep}
use Rattle.points_law.proofs.Side.{at_left, at_right, left_column, right_column}
use Rattle.points_law.proofs.Vertex.{east, west, slopes, starts, stops, goes_up, EndsAt, Vertex, Upright, vertex_end, on_upright, east_west, above_start, above_stop, up_left, up_right, down_right, cover_p, cover_q, slope_run, run_none, rise_some}
use Rattle.points_law.proofs.Truth.{both_true, only_first, only_second, and_none}
use Rattle.std.proofs.lemmas.Bool.{not-true}

-- ---- the left and the right side of one edge
pub sloping_left : (es : List Edge) → Edges es → (a : Edge → Bool) → Even a es → (e : Edge) → In e es → (k : ℤ) → cv e k ≡ true → parity a es (left e) ≡ among a es e k
sloping_left es h a ev e i k c = at_left es h.noded h.small a e i (column (left e)).0 (column (left e)).1 lc ∙ anywhere es h.noded h.ordered a ev e i (column (left e)).0 k lc c
  where
    lc : cv e (column (left e)).0 ≡ true
    lc = left_column e (column (left e)).0 (h.small e i) (cv_run e k c) (column (left e)).1

pub sloping_right : (es : List Edge) → Edges es → (a : Edge → Bool) → Even a es → (e : Edge) → In e es → (k : ℤ) → cv e k ≡ true → parity a es (right e) ≡ among a es e k ⊕ a e
sloping_right es h a ev e i k c = at_right es h.noded h.small h.distinct a e i (column (right e)).0 (column (right e)).1 rc
    ∙ ap (λ (t : Bool). t ⊕ a e) (anywhere es h.noded h.ordered a ev e i (column (right e)).0 k rc c)
  where
    rc : cv e (column (right e)).0 ≡ true
    rc = right_column e (column (right e)).0 (h.small e i) (cv_run e k c) (column (right e)).1

-- two edges that go up from one point are one
either_way : {P : Type 0} (a b : ℤ) → (a ≤ℤ b → P) → (b ≤ℤ a → P) → P
either_way a b f g = by_lt_z a b (λ l. f (weak a b l)) g

never : (a b : ℤ) → a ≡ b → b <ℤ a → ⊥
never a b h i = omega (arith, ints)

top_on : (es : List Edge) → Noded es → (f g : Edge) → In f es → In g es → Upright f → Upright g → f.p ≡ g.p → f.q.y ≤ℤ g.q.y → f ≡ g
top_on es n f g i j u v e h = meet (vertex_end es n f.q (record { edge = f; inside = i; ends = inr refl }) g j
    (on_upright g f.q v.flat (sym u.flat ∙ ap (λ (w : Pt). w.x) e) (subst (λ (t : ℤ). t ≤ℤ f.q.y) (ap (λ (w : Pt). w.y) e) (weak f.p.y f.q.y u.tall)) h v.tall))
  where
    meet : EndsAt g f.q → f ≡ g
    meet (inl k) = absurd (never f.q.y f.p.y (ap (λ (w : Pt). w.y) (k ∙ sym e)) u.tall)
    meet (inr k) = edge_path f g e k

pub one_up : (es : List Edge) → Noded es → (f g : Edge) → In f es → In g es → Upright f → Upright g → f.p ≡ g.p → f ≡ g
one_up es n f g i j u v e = either_way f.q.y g.q.y (top_on es n f g i j u v e) (λ h. sym (top_on es n g f j i v u (sym e) h))

bottom_on : (es : List Edge) → Noded es → (f g : Edge) → In f es → In g es → Upright f → Upright g → f.q ≡ g.q → g.p.y ≤ℤ f.p.y → f ≡ g
bottom_on es n f g i j u v e h = meet (vertex_end es n f.p (record { edge = f; inside = i; ends = inl refl }) g j
    (on_upright g f.p v.flat (u.flat ∙ ap (λ (w : Pt). w.x) e ∙ sym v.flat) h (subst (λ (t : ℤ). f.p.y ≤ℤ t) (ap (λ (w : Pt). w.y) e) (weak f.p.y f.q.y u.tall)) v.tall))
  where
    meet : EndsAt g f.p → f ≡ g
    meet (inl k) = edge_path f g k e
    meet (inr k) = absurd (never f.q.y f.p.y (ap (λ (w : Pt). w.y) (e ∙ sym k)) u.tall)

pub one_down : (es : List Edge) → Noded es → (f g : Edge) → In f es → In g es → Upright f → Upright g → f.q ≡ g.q → f ≡ g
one_down es n f g i j u v e = either_way f.p.y g.p.y (λ h. sym (bottom_on es n g f j i v u (sym e) h)) (bottom_on es n f g i j u v e)

-- ---- the kinds of edges at v
pub upright_of : (e : Edge) → Ordered e → slopes e ≡ false → Upright e
upright_of e (inl h) s = absurd (clash e.p.x e.q.x s h)
  where
    clash : (p q : ℤ) → lt_z p q ≡ false → p <ℤ q → ⊥
    clash p q h k = omega (arith, ints)
upright_of e (inr h) s = record { flat = h.0; tall = h.1 }

-- f comes before g, turning clockwise from just left of the upward direction; both end at v
abbrev pub before : Pt → Edge → Edge → Bool
before v f g = (is v f.p ∧∧ is v g.q) ⊕ ((is v f.p ∧∧ is v g.p ⊕ is v f.q ∧∧ is v g.q) ∧∧ lt_z (pos 0) (slope f g))

abbrev pub ends_at : Pt → Edge → Bool
ends_at v f = is v f.p ⊕ is v f.q

lesser : (e : Edge) → Ordered e → ¬ (e.p ≡ e.q)
lesser e (inl h) k = clash e.p.x e.q.x h (ap (λ (w : Pt). w.x) k)
  where
    clash : (p q : ℤ) → p <ℤ q → p ≡ q → ⊥
    clash p q h k = omega (arith, ints)
lesser e (inr h) k = clash e.p.y e.q.y h.1 (ap (λ (w : Pt). w.y) k)
  where
    clash : (p q : ℤ) → p <ℤ q → p ≡ q → ⊥
    clash p q h k = omega (arith, ints)

p_not_q : (e : Edge) → Ordered e → is e.p e.q ≡ false
p_not_q e o = not_true (is e.p e.q) (λ h. lesser e o (is_same e.p e.q h))

q_not_p : (e : Edge) → Ordered e → is e.q e.p ≡ false
q_not_p e o = not_true (is e.q e.p) (λ h. lesser e o (sym (is_same e.q e.p h)))

-- ---- slopes of edges with a common end
pub run_low : (e : Edge) → Ordered e → pos 0 ≤ℤ run e
run_low e (inl h) = least e.p.x e.q.x h
  where
    least : (p q : ℤ) → p <ℤ q → pos 0 ≤ℤ (q -ℤ p)
    least p q h = omega (arith, ints)
run_low e (inr h) = least e.p.x e.q.x h.0
  where
    least : (p q : ℤ) → p ≡ q → pos 0 ≤ℤ (q -ℤ p)
    least p q h = omega (arith, ints)

product_low : (r s : ℤ) → pos 0 ≤ℤ r → pos 0 <ℤ s → pos 0 ≤ℤ (r *ℤ s)
product_low r s h i = mul_nonneg r s h (weak (pos 0) s i)

-- nothing is steeper than an upright edge
pub not_steeper : (f g : Edge) → Ordered f → Upright g → lt_z (pos 0) (slope f g) ≡ false
not_steeper f g o u = ap (λ (t : ℤ). lt_z (pos 0) (t *ℤ rise f -ℤ run f *ℤ rise g)) (run_none g u) ∙ low (rise f) (run f *ℤ rise g) (product_low (run f) (rise g) (run_low f o) (rise_some g u))
  where
    low : (s w : ℤ) → pos 0 ≤ℤ w → lt_z (pos 0) (pos 0 *ℤ s -ℤ w) ≡ false
    low s w h = not_true (lt_z (pos 0) (pos 0 *ℤ s -ℤ w)) (λ t. no (pos 0 *ℤ s -ℤ w) w (zero s w) h (lt_z_told (pos 0) (pos 0 *ℤ s -ℤ w) t))
      where
        zero : (s w : ℤ) → pos 0 *ℤ s -ℤ w ≡ neg_ℤ w
        zero s w = omega (arith, ints)

        no : (x w : ℤ) → x ≡ neg_ℤ w → pos 0 ≤ℤ w → pos 0 <ℤ x → ⊥
        no x w e h t = omega (arith, ints)

pub steeper : (f g : Edge) → Upright f → pos 0 <ℤ run g → lt_z (pos 0) (slope f g) ≡ true
steeper f g u r = ap (λ (t : ℤ). lt_z (pos 0) (run g *ℤ rise f -ℤ t *ℤ rise g)) (run_none f u) ∙ high (run g *ℤ rise f) (rise g) (mul_pos (run g) (rise f) r (rise_some f u))
  where
    high : (w s : ℤ) → pos 0 <ℤ w → lt_z (pos 0) (w -ℤ pos 0 *ℤ s) ≡ true
    high w s h = both_ways (lt_z (pos 0) (w -ℤ pos 0 *ℤ s)) true (λ t. refl) (λ t. is_positive (w -ℤ pos 0 *ℤ s) (more w s h))
      where
        more : (w s : ℤ) → pos 0 <ℤ w → pos 0 <ℤ (w -ℤ pos 0 *ℤ s)
        more w s h = omega (arith, ints)

from_start : (rf sf rg sg px py : ℤ) → twice (rg *ℤ sf -ℤ rf *ℤ sg) (rg *ℤ (py *ℤ rf -ℤ px *ℤ sf) -ℤ rf *ℤ (py *ℤ rg -ℤ px *ℤ sg)) px ≡ rg *ℤ sf -ℤ rf *ℤ sg
from_start rf sf rg sg px py = simp expand (omega (arith, linear))

pub ab_start : (f g : Edge) → f.p ≡ g.p → ab f g g.p.x ≡ lt_z (pos 0) (slope f g)
ab_start f g e = ap (λ (w : Pt). lt_z (pos 0) (twice (slope f g) (run g *ℤ (w.y *ℤ run f -ℤ w.x *ℤ rise f) -ℤ run f *ℤ off g) g.p.x)) e
    ∙ ap (lt_z (pos 0)) (from_start (run f) (rise f) (run g) (rise g) g.p.x g.p.y)

from_stop : (rf sf rg sg qx qy : ℤ) → twice (rg *ℤ sf -ℤ rf *ℤ sg) (rg *ℤ (qy *ℤ rf -ℤ qx *ℤ sf) -ℤ rf *ℤ (qy *ℤ rg -ℤ qx *ℤ sg)) (qx -ℤ pos 1) ≡ rf *ℤ sg -ℤ rg *ℤ sf
from_stop rf sf rg sg qx qy = simp expand (omega (arith, linear))

off_stop : (px py qx qy : ℤ) → py *ℤ (qx -ℤ px) -ℤ px *ℤ (qy -ℤ py) ≡ qy *ℤ (qx -ℤ px) -ℤ qx *ℤ (qy -ℤ py)
off_stop px py qx qy = simp expand (omega (arith, linear))

pub ab_stop : (f g : Edge) → f.q ≡ g.q → ab f g (g.q.x -ℤ pos 1) ≡ lt_z (pos 0) (slope g f)
ab_stop f g e = ap (λ (t : ℤ). lt_z (pos 0) (twice (slope f g) (run g *ℤ t -ℤ run f *ℤ off g) (g.q.x -ℤ pos 1))) (off_stop f.p.x f.p.y f.q.x f.q.y)
    ∙ ap (λ (t : ℤ). lt_z (pos 0) (twice (slope f g) (run g *ℤ (f.q.y *ℤ run f -ℤ f.q.x *ℤ rise f) -ℤ run f *ℤ t) (g.q.x -ℤ pos 1))) (off_stop g.p.x g.p.y g.q.x g.q.y)
    ∙ ap (λ (w : Pt). lt_z (pos 0) (twice (slope f g) (run g *ℤ (w.y *ℤ run f -ℤ w.x *ℤ rise f) -ℤ run f *ℤ (g.q.y *ℤ run g -ℤ g.q.x *ℤ rise g)) (g.q.x -ℤ pos 1))) e
    ∙ ap (lt_z (pos 0)) (from_stop (run f) (rise f) (run g) (rise g) g.q.x g.q.y)

-- ---- crossing an edge
vertex_p : (es : List Edge) (e : Edge) → In e es → Vertex es e.p
vertex_p es e i = record { edge = e; inside = i; ends = inl refl }

vertex_q : (es : List Edge) (e : Edge) → In e es → Vertex es e.q
vertex_q es e i = record { edge = e; inside = i; ends = inr refl }

xor_move : (x y z : Bool) → x ⊕ y ≡ z → x ≡ y ⊕ z
xor_move x y z h = grind arith

to_not : (t : Bool) → t ≡ false → not t ≡ true
to_not t h = grind arith

only_up : (es : List Edge) → Edges es → (a : Edge → Bool) → (g : Edge) → In g es → slopes g ≡ false → par (λ f. a f ∧∧ goes_up f g.p) es ≡ a g
only_up es h a g i s = par_cong (λ f. a f ∧∧ goes_up f g.p) (λ f. same f g ∧∧ a f) es
    (λ f j. ap (λ (t : Bool). a f ∧∧ t) (both_ways (goes_up f g.p) (same f g)
    (λ t. subst (λ w. same f w ≡ true) (one_up es h.noded f g j i (upright_of f (h.ordered f j) (not-true (slopes f) (and_right (is g.p f.p) (not (slopes f)) t))) (upright_of g (h.ordered g i) s) (sym (is_same g.p f.p (and_left (is g.p f.p) (not (slopes f)) t)))) (same_refl f))
    (λ t. subst (λ w. goes_up w g.p ≡ true) (sym (same_is f g t)) (both_true (is g.p g.p) (not (slopes g)) (is_refl g.p) (to_not (slopes g) s))))
    ∙ and_comm (a f) (same f g))
    ∙ once es h.distinct a g i

cross_by : (es : List Edge) → Edges es → (a : Edge → Bool) → Even a es → (g : Edge) → In g es → (t : Bool) → slopes g ≡ t → parity a es (right g) ≡ parity a es (left g) ⊕ a g
cross_by es h a ev g i true s = sloping_right es h a ev g i g.p.x c ∙ ap (λ (t : Bool). t ⊕ a g) (sym (sloping_left es h a ev g i g.p.x c))
  where
    c : cv g g.p.x ≡ true
    c = cover_p g.p.x g.q.x s
cross_by es h a ev g i false s = up_right es h.noded h.small a g i (upright_of g (h.ordered g i) s)
    ∙ xor_move (east a es g.p) (west a es g.p) (a g) (east_west es h.noded h.ordered a ev g.p (vertex_p es g i) ∙ only_up es h a g i s)
    ∙ ap (λ (t : Bool). t ⊕ a g) (sym (up_left es h.noded h.small a g i (upright_of g (h.ordered g i) s)))

-- the parity changes across an edge exactly where it is chosen
pub crossing : (es : List Edge) → Edges es → (a : Edge → Bool) → Even a es → (g : Edge) → In g es → parity a es (right g) ≡ parity a es (left g) ⊕ a g
crossing es h a ev g i = cross_by es h a ev g i (slopes g) refl

-- ---- by the edges that come before, at the lesser end
before_p : (pf qf pg qg s : Bool) → pg ≡ true → qg ≡ false → (pf ∧∧ qg) ⊕ ((pf ∧∧ pg ⊕ qf ∧∧ qg) ∧∧ s) ≡ pf ∧∧ s
before_p pf qf pg qg s h i = grind arith

before_q : (pf qf pg qg s : Bool) → pg ≡ false → qg ≡ true → (pf ∧∧ qg) ⊕ ((pf ∧∧ pg ⊕ qf ∧∧ qg) ∧∧ s) ≡ pf ⊕ qf ∧∧ s
before_q pf qf pg qg s h i = grind arith

pub at_p : (g f : Edge) → Ordered g → before g.p f g ≡ is g.p f.p ∧∧ lt_z (pos 0) (slope f g)
at_p g f o = before_p (is g.p f.p) (is g.p f.q) (is g.p g.p) (is g.p g.q) (lt_z (pos 0) (slope f g)) (is_refl g.p) (p_not_q g o)

at_q : (g f : Edge) → Ordered g → before g.q f g ≡ is g.q f.p ⊕ is g.q f.q ∧∧ lt_z (pos 0) (slope f g)
at_q g f o = before_q (is g.q f.p) (is g.q f.q) (is g.q g.p) (is g.q g.q) (lt_z (pos 0) (slope f g)) (q_not_p g o) (is_refl g.q)

no_more : (x : Bool) → x ≡ x ⊕ false
no_more x = grind arith

third_none : (a b c : Bool) → c ≡ false → a ∧∧ (b ∧∧ c) ≡ false
third_none a b c h = grind arith

start_parts : (i s x t : Bool) → (i ≡ true → s ≡ true → x ≡ t) → (i ≡ true → s ≡ false → t ≡ true) → i ∧∧ t ≡ (i ∧∧ not s) ⊕ ((i ∧∧ s) ∧∧ x)
start_parts i s x t h k = grind arith

dist3 : (a x y : Bool) → a ∧∧ (x ⊕ y) ≡ (a ∧∧ x) ⊕ (a ∧∧ y)
dist3 a x y = grind arith

assoc3 : (x y z w : Bool) → w ≡ y ⊕ z → (x ⊕ y) ⊕ z ≡ x ⊕ w
assoc3 x y z w h = grind arith

pub turned_p : (es : List Edge) → Edges es → (a : Edge → Bool) → Even a es → (g : Edge) → In g es → (t : Bool) → slopes g ≡ t
    → parity a es (left g) ≡ west a es g.p ⊕ par (λ f. a f ∧∧ before g.p f g) es
turned_p es h a ev g i true s =
    sloping_left es h a ev g i g.p.x (cover_p g.p.x g.q.x s)
    ∙ above_start es h.noded a g i s
    ∙ ap (λ (t : Bool). t ⊕ par (λ f. a f ∧∧ (starts f g.p ∧∧ ab f g g.p.x)) es)
    (xor_move (east a es g.p) (west a es g.p) (par (λ f. a f ∧∧ goes_up f g.p) es) (east_west es h.noded h.ordered a ev g.p (vertex_p es g i)))
    ∙ assoc3 (west a es g.p) (par (λ f. a f ∧∧ goes_up f g.p) es) (par (λ f. a f ∧∧ (starts f g.p ∧∧ ab f g g.p.x)) es) (par (λ f. a f ∧∧ before g.p f g) es)
    (par_cong (λ f. a f ∧∧ before g.p f g) (λ f. a f ∧∧ goes_up f g.p ⊕ a f ∧∧ (starts f g.p ∧∧ ab f g g.p.x)) es
    (λ f j. ap (λ (t : Bool). a f ∧∧ t) (at_p g f (h.ordered g i) ∙ start_parts (is g.p f.p) (slopes f) (ab f g g.p.x) (lt_z (pos 0) (slope f g))
    (λ k u. ab_start f g (sym (is_same g.p f.p k)))
    (λ k u. steeper f g (upright_of f (h.ordered f j) u) (slope_run g s)))
    ∙ dist3 (a f) (goes_up f g.p) (starts f g.p ∧∧ ab f g g.p.x))
    ∙ sym (par_xor (λ f. a f ∧∧ goes_up f g.p) (λ f. a f ∧∧ (starts f g.p ∧∧ ab f g g.p.x)) es))
turned_p es h a ev g i false s =
    up_left es h.noded h.small a g i u
    ∙ no_more (west a es g.p)
    ∙ ap (λ (t : Bool). west a es g.p ⊕ t) (sym (par_cong (λ f. a f ∧∧ before g.p f g) (λ f. false) es
    (λ f j. ap (λ (t : Bool). a f ∧∧ t) (at_p g f (h.ordered g i)) ∙ third_none (a f) (is g.p f.p) (lt_z (pos 0) (slope f g)) (not_steeper f g (h.ordered f j) u)) ∙ par_none es))
  where
    u : Upright g
    u = upright_of g (h.ordered g i) s

-- at the greater end
stop_parts : (i s x t m : Bool) → (m ≡ false → i ≡ true → s ≡ true → not t ≡ x) → (m ≡ false → i ≡ true → s ≡ false → t ≡ true) → (m ≡ true → i ≡ true) → (m ≡ true → t ≡ false) → (m ≡ true → x ≡ false)
    → i ∧∧ not t ≡ ((i ∧∧ s) ∧∧ x) ⊕ m
stop_parts i s x t m h k u v w = grind arith

last_parts : (a p q t w : Bool) → q ∧∧ not t ≡ w → (a ∧∧ (p ⊕ q ∧∧ t)) ⊕ (a ∧∧ (p ⊕ q)) ≡ a ∧∧ w
last_parts a p q t w h = grind arith

drop_none : (x y : Bool) → y ≡ false → x ≡ x ⊕ y
drop_none x y h = grind arith

down_parts : (p q s t : Bool) → t ≡ false → p ⊕ q ∧∧ t ≡ (p ∧∧ not s) ⊕ (p ∧∧ s)
down_parts p q s t h = grind arith

pub itself_flat : (e : Edge) → lt_z (pos 0) (slope e e) ≡ false
itself_flat e = ap (lt_z (pos 0)) (none (run e) (rise e))
  where
    none : (r s : ℤ) → r *ℤ s -ℤ r *ℤ s ≡ pos 0
    none r s = omega (arith, ints)

other_way : (t u : Bool) → t ⊕ u ≡ true → not u ≡ t
other_way t u h = grind arith

same_turned : (e f : Edge) → same f e ≡ false → ¬ (e ≡ f)
same_turned e f s h = false≢true (sym s ∙ subst (λ z. same z e ≡ true) h (same_refl e))

stop_each : (es : List Edge) → Edges es → (g f : Edge) → In g es → In f es → slopes g ≡ true
    → is g.q f.q ∧∧ not (lt_z (pos 0) (slope f g)) ≡ (stops f g.q ∧∧ ab f g (g.q.x -ℤ pos 1)) ⊕ same f g
stop_each es h g f i j s = stop_parts (is g.q f.q) (slopes f) (ab f g (g.q.x -ℤ pos 1)) (lt_z (pos 0) (slope f g)) (same f g)
    (λ m k u. ap (λ (t : Bool). not t) (sym (turned (is_same g.q f.q k))) ∙ other_way (ab f g (g.q.x -ℤ pos 1)) (ab g f (g.q.x -ℤ pos 1))
    (one_above g f (g.q.x -ℤ pos 1) (h.noded g f i j (same_turned g f m)) (cover_q g.p.x g.q.x s)
    (subst (λ (w : Pt). le_z f.p.x (w.x -ℤ pos 1) ∧∧ lt_z (w.x -ℤ pos 1) f.q.x ≡ true) (sym (is_same g.q f.q k)) (cover_q f.p.x f.q.x u))))
    (λ m k u. steeper f g (upright_of f (h.ordered f j) u) (slope_run g s))
    (λ m. subst (λ w. is g.q w.q ≡ true) (sym (same_is f g m)) (is_refl g.q))
    (λ m. subst (λ w. lt_z (pos 0) (slope w g) ≡ false) (sym (same_is f g m)) (itself_flat g))
    (λ m. subst (λ w. ab w g (g.q.x -ℤ pos 1) ≡ false) (sym (same_is f g m)) (not_above_itself g (g.q.x -ℤ pos 1)))
  where
    turned : g.q ≡ f.q → ab g f (g.q.x -ℤ pos 1) ≡ lt_z (pos 0) (slope f g)
    turned e = ap (λ (w : Pt). ab g f (w.x -ℤ pos 1)) e ∙ ab_stop g f e

pub turned_q : (es : List Edge) → Edges es → (a : Edge → Bool) → Even a es → (g : Edge) → In g es → (t : Bool) → slopes g ≡ t
    → parity a es (right g) ≡ west a es g.q ⊕ par (λ f. a f ∧∧ before g.q f g) es
turned_q es h a ev g i true s =
    sloping_right es h a ev g i (g.q.x -ℤ pos 1) (cover_q g.p.x g.q.x s)
    ∙ ap (λ (t : Bool). t ⊕ a g) (above_stop es h.noded a g i s)
    ∙ assoc3 (west a es g.q) (par (λ f. a f ∧∧ (stops f g.q ∧∧ ab f g (g.q.x -ℤ pos 1))) es) (a g) (par (λ f. a f ∧∧ before g.q f g) es)
    (drop_none (par (λ f. a f ∧∧ before g.q f g) es) (par (λ f. a f ∧∧ (is g.q f.p ⊕ is g.q f.q)) es) (ev g.q)
    ∙ par_xor (λ f. a f ∧∧ before g.q f g) (λ f. a f ∧∧ (is g.q f.p ⊕ is g.q f.q)) es
    ∙ par_cong (λ f. a f ∧∧ before g.q f g ⊕ a f ∧∧ (is g.q f.p ⊕ is g.q f.q)) (λ f. a f ∧∧ (stops f g.q ∧∧ ab f g (g.q.x -ℤ pos 1)) ⊕ same f g ∧∧ a f) es
    (λ f j. ap (λ (t : Bool). a f ∧∧ t ⊕ a f ∧∧ (is g.q f.p ⊕ is g.q f.q)) (at_q g f (h.ordered g i))
    ∙ last_parts (a f) (is g.q f.p) (is g.q f.q) (lt_z (pos 0) (slope f g)) ((stops f g.q ∧∧ ab f g (g.q.x -ℤ pos 1)) ⊕ same f g) (stop_each es h g f i j s)
    ∙ dist3 (a f) (stops f g.q ∧∧ ab f g (g.q.x -ℤ pos 1)) (same f g)
    ∙ ap (λ (t : Bool). a f ∧∧ (stops f g.q ∧∧ ab f g (g.q.x -ℤ pos 1)) ⊕ t) (and_comm (a f) (same f g)))
    ∙ sym (par_xor (λ f. a f ∧∧ (stops f g.q ∧∧ ab f g (g.q.x -ℤ pos 1))) (λ f. same f g ∧∧ a f) es)
    ∙ ap (λ (t : Bool). par (λ f. a f ∧∧ (stops f g.q ∧∧ ab f g (g.q.x -ℤ pos 1))) es ⊕ t) (once es h.distinct a g i))
turned_q es h a ev g i false s =
    down_right es h.noded h.small a g i u
    ∙ ap (λ (t : Bool). t ⊕ par (λ f. a f ∧∧ starts f g.q) es) (xor_move (east a es g.q) (west a es g.q) (par (λ f. a f ∧∧ goes_up f g.q) es) (east_west es h.noded h.ordered a ev g.q (vertex_q es g i)))
    ∙ assoc3 (west a es g.q) (par (λ f. a f ∧∧ goes_up f g.q) es) (par (λ f. a f ∧∧ starts f g.q) es) (par (λ f. a f ∧∧ before g.q f g) es)
    (par_cong (λ f. a f ∧∧ before g.q f g) (λ f. a f ∧∧ goes_up f g.q ⊕ a f ∧∧ starts f g.q) es
    (λ f j. ap (λ (t : Bool). a f ∧∧ t) (at_q g f (h.ordered g i) ∙ down_parts (is g.q f.p) (is g.q f.q) (slopes f) (lt_z (pos 0) (slope f g)) (not_steeper f g (h.ordered f j) u))
    ∙ dist3 (a f) (goes_up f g.q) (starts f g.q))
    ∙ sym (par_xor (λ f. a f ∧∧ goes_up f g.q) (λ f. a f ∧∧ starts f g.q) es))
  where
    u : Upright g
    u = upright_of g (h.ordered g i) s

-- ---- an even number of result edges ends at each point
sloping_pair : (es : List Edge) → Edges es → (f g : Edge) → In f es → In g es → ¬ (f ≡ g) → f.p ≡ g.p → slopes f ≡ true → slopes g ≡ true → lt_z (pos 0) (slope f g) ⊕ lt_z (pos 0) (slope g f) ≡ true
sloping_pair es h f g i j n e s t =
    ap (λ (x : Bool). x ⊕ lt_z (pos 0) (slope g f)) (sym (ab_start f g e))
    ∙ ap (λ (x : Bool). ab f g g.p.x ⊕ x) (sym (ap (λ (w : Pt). ab g f w.x) (sym e) ∙ ab_start g f (sym e)))
    ∙ one_above g f g.p.x (h.noded g f j i (λ k. n (sym k))) (cover_p g.p.x g.q.x t) (subst (λ (w : Pt). le_z f.p.x w.x ∧∧ lt_z w.x f.q.x ≡ true) e (cover_p f.p.x f.q.x s))

sloping_pair_q : (es : List Edge) → Edges es → (f g : Edge) → In f es → In g es → ¬ (f ≡ g) → f.q ≡ g.q → slopes f ≡ true → slopes g ≡ true → lt_z (pos 0) (slope f g) ⊕ lt_z (pos 0) (slope g f) ≡ true
sloping_pair_q es h f g i j n e s t =
    ap (λ (x : Bool). x ⊕ lt_z (pos 0) (slope g f)) (sym (ap (λ (w : Pt). ab g f (w.x -ℤ pos 1)) (sym e) ∙ ab_stop g f (sym e)))
    ∙ ap (λ (x : Bool). ab g f (g.q.x -ℤ pos 1) ⊕ x) (sym (ab_stop f g e))
    ∙ one_above f g (g.q.x -ℤ pos 1) (h.noded f g i j n) (subst (λ (w : Pt). le_z f.p.x (w.x -ℤ pos 1) ∧∧ lt_z (w.x -ℤ pos 1) f.q.x ≡ true) e (cover_q f.p.x f.q.x s)) (cover_q g.p.x g.q.x t)

-- of two edges with a common lesser, or a common greater, end one is steeper
pub steep_p : (es : List Edge) → Edges es → (f g : Edge) → In f es → In g es → ¬ (f ≡ g) → f.p ≡ g.p → (s t : Bool) → slopes f ≡ s → slopes g ≡ t → lt_z (pos 0) (slope f g) ⊕ lt_z (pos 0) (slope g f) ≡ true
steep_p es h f g i j n e true true s t = sloping_pair es h f g i j n e s t
steep_p es h f g i j n e true false s t = only_second (lt_z (pos 0) (slope f g)) (lt_z (pos 0) (slope g f)) (not_steeper f g (h.ordered f i) (upright_of g (h.ordered g j) t)) (steeper g f (upright_of g (h.ordered g j) t) (slope_run f s))
steep_p es h f g i j n e false true s t = only_first (lt_z (pos 0) (slope f g)) (lt_z (pos 0) (slope g f)) (steeper f g (upright_of f (h.ordered f i) s) (slope_run g t)) (not_steeper g f (h.ordered g j) (upright_of f (h.ordered f i) s))
steep_p es h f g i j n e false false s t = absurd (n (one_up es h.noded f g i j (upright_of f (h.ordered f i) s) (upright_of g (h.ordered g j) t) e))

steep_q : (es : List Edge) → Edges es → (f g : Edge) → In f es → In g es → ¬ (f ≡ g) → f.q ≡ g.q → (s t : Bool) → slopes f ≡ s → slopes g ≡ t → lt_z (pos 0) (slope f g) ⊕ lt_z (pos 0) (slope g f) ≡ true
steep_q es h f g i j n e true true s t = sloping_pair_q es h f g i j n e s t
steep_q es h f g i j n e true false s t = only_second (lt_z (pos 0) (slope f g)) (lt_z (pos 0) (slope g f)) (not_steeper f g (h.ordered f i) (upright_of g (h.ordered g j) t)) (steeper g f (upright_of g (h.ordered g j) t) (slope_run f s))
steep_q es h f g i j n e false true s t = only_first (lt_z (pos 0) (slope f g)) (lt_z (pos 0) (slope g f)) (steeper f g (upright_of f (h.ordered f i) s) (slope_run g t)) (not_steeper g f (h.ordered g j) (upright_of f (h.ordered f i) s))
steep_q es h f g i j n e false false s t = absurd (n (one_down es h.noded f g i j (upright_of f (h.ordered f i) s) (upright_of g (h.ordered g j) t) e))

-- both at v, different: exactly one comes before the other
order_pq : (pf qf pg qg s t m : Bool) → pf ⊕ qf ≡ true → pg ⊕ qg ≡ true → (pf ≡ true → qf ≡ false) → (pg ≡ true → qg ≡ false)
    → (pf ≡ true → pg ≡ true → s ⊕ t ≡ true) → (qf ≡ true → qg ≡ true → s ⊕ t ≡ true) → m ≡ false
    → (((pf ∧∧ qg) ⊕ ((pf ∧∧ pg ⊕ qf ∧∧ qg) ∧∧ s)) ⊕ ((pg ∧∧ qf) ⊕ ((pg ∧∧ pf ⊕ qg ∧∧ qf) ∧∧ t))) ⊕ m ≡ true
order_pq pf qf pg qg s t m h i j k u w z = grind arith

pub not_both : (e : Edge) → Ordered e → (v : Pt) → is v e.p ≡ true → is v e.q ≡ false
not_both e o v h = ap (λ (w : Pt). is w e.q) (is_same v e.p h) ∙ p_not_q e o

xor_same : (t s : Bool) → s ≡ true → (t ⊕ t) ⊕ s ≡ true
xor_same t s h = grind arith

pub round_tour : (es : List Edge) → Edges es → (v : Pt) (f g : Edge) → In f es → In g es → ends_at v f ≡ true → ends_at v g ≡ true → (t : Bool) → same f g ≡ t → (before v f g ⊕ before v g f) ⊕ same f g ≡ true
round_tour es h v f g i j a b true s = subst (λ w. (before v w g ⊕ before v g w) ⊕ same w g ≡ true) (sym (same_is f g s)) (xor_same (before v g g) (same g g) (same_refl g))
round_tour es h v f g i j a b false s = order_pq (is v f.p) (is v f.q) (is v g.p) (is v g.q) (lt_z (pos 0) (slope f g)) (lt_z (pos 0) (slope g f)) (same f g) a b
    (not_both f (h.ordered f i) v) (not_both g (h.ordered g j) v)
    (λ k u. steep_p es h f g i j (differ f g s) (sym (is_same v f.p k) ∙ is_same v g.p u) (slopes f) (slopes g) refl refl)
    (λ k u. steep_q es h f g i j (differ f g s) (sym (is_same v f.q k) ∙ is_same v g.q u) (slopes f) (slopes g) refl refl) s

-- the operation, counted from the side where the turn begins
abbrev from_there : (Bool → Bool → Bool) → Bool → Bool → Bool → Bool → Bool
from_there op wa wb x y = op (wa ⊕ x) (wb ⊕ y) ⊕ op wa wb

from_zero : (op : Bool → Bool → Bool) (wa wb : Bool) → from_there op wa wb false false ≡ false
from_zero op wa wb = ap (λ (t : Bool). op t (wb ⊕ false) ⊕ op wa wb) (stay wa) ∙ ap (λ (t : Bool). op wa t ⊕ op wa wb) (stay wb) ∙ twice_it (op wa wb)
  where
    stay : (x : Bool) → x ⊕ false ≡ x
    stay x = grind arith

    twice_it : (t : Bool) → t ⊕ t ≡ false
    twice_it t = grind arith

cancel : (x y z : Bool) → (x ⊕ z) ⊕ (y ⊕ z) ≡ x ⊕ y
cancel x y z = grind arith

xor_comm : (x y : Bool) → x ⊕ y ≡ y ⊕ x
xor_comm x y = grind arith

regroup : (x y z : Bool) → (x ⊕ y) ⊕ z ≡ x ⊕ (y ⊕ z)
regroup x y z = grind arith

jump_there : (op : Bool → Bool → Bool) (wa wb x y a b : Bool) → jump (from_there op wa wb) x y a b ≡ op (wa ⊕ x) (wb ⊕ y) ⊕ op ((wa ⊕ x) ⊕ a) ((wb ⊕ y) ⊕ b)
jump_there op wa wb x y a b = cancel (op (wa ⊕ x) (wb ⊕ y)) (op (wa ⊕ (x ⊕ a)) (wb ⊕ (y ⊕ b))) (op wa wb)
    ∙ ap (λ (t : Bool). op (wa ⊕ x) (wb ⊕ y) ⊕ op t (wb ⊕ (y ⊕ b))) (sym (regroup wa x a))
    ∙ ap (λ (t : Bool). op (wa ⊕ x) (wb ⊕ y) ⊕ op ((wa ⊕ x) ⊕ a) t) (sym (regroup wb y b))

by_sides : (op : Bool → Bool → Bool) (la lb ra rb ca cb a b : Bool) → la ≡ ca → lb ≡ cb → ra ≡ ca ⊕ a → rb ≡ cb ⊕ b → op la lb ⊕ op ra rb ≡ op ca cb ⊕ op (ca ⊕ a) (cb ⊕ b)
by_sides op la lb ra rb ca cb a b h i j k = ap (λ (t : Bool). op t lb ⊕ op ra rb) h ∙ ap (λ (t : Bool). op ca t ⊕ op ra rb) i ∙ ap (λ (t : Bool). op ca cb ⊕ op t rb) j ∙ ap (λ (t : Bool). op ca cb ⊕ op (ca ⊕ a) t) k

undo : (l r a : Bool) → r ≡ l ⊕ a → l ≡ r ⊕ a
undo l r a h = grind arith

-- at each vertex the result's sides are the operation's jumps, in clockwise order
jump_at : (es : List Edge) (op : Bool → Bool → Bool) (a b : Edge → Bool) (v : Pt) (g : Edge) (fa fb sa sb : Bool) → fa ≡ west a es v ⊕ par (λ f. a f ∧∧ before v f g) es → fb ≡ west b es v ⊕ par (λ f. b f ∧∧ before v f g) es → sa ≡ fa ⊕ a g → sb ≡ fb ⊕ b g
    → op fa fb ⊕ op sa sb ≡ jump (from_there op (west a es v) (west b es v)) (par (λ f. a f ∧∧ before v f g) es) (par (λ f. b f ∧∧ before v f g) es) (a g) (b g)
jump_at es op a b v g fa fb sa sb ea eb ca cb =
    by_sides op fa fb sa sb (west a es v ⊕ par (λ f. a f ∧∧ before v f g) es) (west b es v ⊕ par (λ f. b f ∧∧ before v f g) es) (a g) (b g)
    ea eb (ca ∙ ap (λ (t : Bool). t ⊕ a g) ea) (cb ∙ ap (λ (t : Bool). t ⊕ b g) eb)
    ∙ sym (jump_there op (west a es v) (west b es v) (par (λ f. a f ∧∧ before v f g) es) (par (λ f. b f ∧∧ before v f g) es) (a g) (b g))

result_p : (es : List Edge) → Edges es → (op : Bool → Bool → Bool) (a b : Edge → Bool) → Even a es → Even b es → (g : Edge) → In g es
    → in_result op a b es g ≡ jump (from_there op (west a es g.p) (west b es g.p)) (par (λ f. a f ∧∧ before g.p f g) es) (par (λ f. b f ∧∧ before g.p f g) es) (a g) (b g)
result_p es h op a b ea eb g i = jump_at es op a b g.p g (parity a es (left g)) (parity b es (left g)) (parity a es (right g)) (parity b es (right g))
    (turned_p es h a ea g i (slopes g) refl) (turned_p es h b eb g i (slopes g) refl) (crossing es h a ea g i) (crossing es h b eb g i)

result_q : (es : List Edge) → Edges es → (op : Bool → Bool → Bool) (a b : Edge → Bool) → Even a es → Even b es → (g : Edge) → In g es
    → in_result op a b es g ≡ jump (from_there op (west a es g.q) (west b es g.q)) (par (λ f. a f ∧∧ before g.q f g) es) (par (λ f. b f ∧∧ before g.q f g) es) (a g) (b g)
result_q es h op a b ea eb g i =
    xor_comm (op (parity a es (left g)) (parity b es (left g))) (op (parity a es (right g)) (parity b es (right g)))
    ∙ jump_at es op a b g.q g (parity a es (right g)) (parity b es (right g)) (parity a es (left g)) (parity b es (left g))
    (turned_q es h a ea g i (slopes g) refl) (turned_q es h b eb g i (slopes g) refl)
    (undo (parity a es (left g)) (parity a es (right g)) (a g) (crossing es h a ea g i)) (undo (parity b es (left g)) (parity b es (right g)) (b g) (crossing es h b eb g i))

pub known : (pf qf pg qg s a : Bool) → (pf ≡ true → qf ≡ false) → a ∧∧ ((pf ∧∧ qg) ⊕ ((pf ∧∧ pg ⊕ qf ∧∧ qg) ∧∧ s)) ≡ ((pf ∧∧ qg) ⊕ ((pf ∧∧ pg ⊕ qf ∧∧ qg) ∧∧ s)) ∧∧ (a ∧∧ (pf ⊕ qf))
known pf qf pg qg s a h = grind arith

ahead : (es : List Edge) → Edges es → (v : Pt) (a : Edge → Bool) (e : Edge) → par (λ f. a f ∧∧ before v f e) es ≡ over (before v) (λ f. a f ∧∧ ends_at v f) es e
ahead es h v a e = par_cong (λ f. a f ∧∧ before v f e) (λ f. before v f e ∧∧ (a f ∧∧ ends_at v f)) es
    (λ f j. known (is v f.p) (is v f.q) (is v e.p) (is v e.q) (lt_z (pos 0) (slope f e)) (a f) (not_both f (h.ordered f j) v))

AtVertex : (es : List Edge) → (Bool → Bool → Bool) → (Edge → Bool) → (Edge → Bool) → Pt → Edge → Type 0
AtVertex es op a b v e = in_result op a b es e ≡ jump (from_there op (west a es v) (west b es v)) (par (λ f. a f ∧∧ before v f e) es) (par (λ f. b f ∧∧ before v f e) es) (a e) (b e)

pub second_end : (p q : Bool) → p ⊕ q ≡ true → p ≡ false → q ≡ true
second_end p q h i = grind arith

at_vertex : (es : List Edge) → Edges es → (op : Bool → Bool → Bool) (a b : Edge → Bool) → Even a es → Even b es → (v : Pt) (e : Edge) → In e es → ends_at v e ≡ true → (t : Bool) → is v e.p ≡ t → AtVertex es op a b v e
unfolding AtVertex
at_vertex es h op a b ea eb v e i s true k = subst (λ w. AtVertex es op a b w e) (sym (is_same v e.p k)) (result_p es h op a b ea eb e i)
at_vertex es h op a b ea eb v e i s false k = subst (λ w. AtVertex es op a b w e) (sym (is_same v e.q (second_end (is v e.p) (is v e.q) s k))) (result_q es h op a b ea eb e i)

round_each : (es : List Edge) → Edges es → (op : Bool → Bool → Bool) (a b : Edge → Bool) → Even a es → Even b es → (v : Pt) (e : Edge) → In e es → (t : Bool) → ends_at v e ≡ t
    → in_result op a b es e ∧∧ ends_at v e ≡ jump (from_there op (west a es v) (west b es v)) (over (before v) (λ f. a f ∧∧ ends_at v f) es e) (over (before v) (λ f. b f ∧∧ ends_at v f) es e) (a e ∧∧ ends_at v e) (b e ∧∧ ends_at v e)
unfolding AtVertex
round_each es h op a b ea eb v e i true s =
    keep (in_result op a b es e) (ends_at v e) s
    ∙ at_vertex es h op a b ea eb v e i s (is v e.p) refl
    ∙ same_jump (from_there op (west a es v) (west b es v)) (par (λ f. a f ∧∧ before v f e) es) (par (λ f. b f ∧∧ before v f e) es) (a e) (b e)
    (over (before v) (λ f. a f ∧∧ ends_at v f) es e) (over (before v) (λ f. b f ∧∧ ends_at v f) es e) (a e ∧∧ ends_at v e) (b e ∧∧ ends_at v e)
    (ahead es h v a e) (ahead es h v b e) (sym (keep (a e) (ends_at v e) s)) (sym (keep (b e) (ends_at v e) s))
round_each es h op a b ea eb v e i false s =
    and_none (in_result op a b es e) (ends_at v e) s
    ∙ sym (no_jump (from_there op (west a es v) (west b es v)) (over (before v) (λ f. a f ∧∧ ends_at v f) es e) (over (before v) (λ f. b f ∧∧ ends_at v f) es e) (a e ∧∧ ends_at v e) (b e ∧∧ ends_at v e)
    (and_none (a e) (ends_at v e) s) (and_none (b e) (ends_at v e) s))

pub result_even : (es : List Edge) → Edges es → (op : Bool → Bool → Bool) → (a b : Edge → Bool) → Even a es → Even b es → Even (in_result op a b es) es
result_even es h op a b ea eb v =
    par_cong (λ e. in_result op a b es e ∧∧ ends_at v e) (λ e. jump op' (over (before v) a' es e) (over (before v) b' es e) (a' e) (b' e)) es
    (λ e i. round_each es h op a b ea eb v e i (ends_at v e) refl)
    ∙ walk op' (from_zero op (west a es v) (west b es v)) (before v) same a' b' es (once es h.distinct)
    (λ x y i j g q. round_tour es h v y x j i (and_right (a y) (ends_at v y) g) (and_right (b x) (ends_at v x) q) (same y x) refl)
    ∙ ap (λ (t : Bool). op' t (par b' es)) (ea v) ∙ ap (λ (t : Bool). op' false t) (eb v) ∙ from_zero op (west a es v) (west b es v)
  where
    op' : Bool → Bool → Bool
    op' x y = from_there op (west a es v) (west b es v) x y

    a' : Edge → Bool
    a' f = a f ∧∧ ends_at v f

    b' : Edge → Bool
    b' f = b f ∧∧ ends_at v f
