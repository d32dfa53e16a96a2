-- The parities at the side points of the edges that end at one vertex.
use mathlib.Core.Path.{◌≡◌, refl, sym, ◌∙◌, ap, subst}
use mathlib.Core.Bool.{Bool, true, false, not, false≢true}
use mathlib.Core.List.{List}
use mathlib.Core.Logic.{◌⊎◌, inl, inr}
use native.Mathlib.Omega.{arith}
use lib.IntN.{ℤ, pos, negsuc, ◌+ℤ◌, ◌-ℤ◌, ◌*ℤ◌, neg_ℤ}
use lib.Signed.{◌<ℤ◌, ◌≤ℤ◌, lt_z, le_z}
use borrow.Author.Differences.{ints}
use Rattle.geom.specs.declared.point.Pt.{Pt}
use Rattle.geom.specs.declared.edge.Edge.{Edge}
use Rattle.geom.specs.Pixel.{Point}
use Rattle.geom.proofs.Lists.{In}
use Rattle.geom.proofs.Pixels.{same_point}
use Rattle.points_law.proofs.Choices.{◌⊕◌, ◌∧∧◌, par, run, rise, Ordered, Small, On, IsAt, IsEnd, MeetAtEnds, Noded, Even, eq_z, is, parity, counted, above, left, right, K}
use Rattle.geom.proofs.Integers.{expand, linear, mul_pos, by_sign, once_left, none_right, mul_neg}
use Rattle.geom.proofs.Numbers.{gap_is, strict_gap_is, no_gap_is, from_strict_gap, negated, positive_is_not_zero, times_no_gap, below_successor, past_predecessor, zero_is_not_positive, once_from, weak}
use Rattle.geom.proofs.Tests.{lt_z_told}
use Rattle.points_law.proofs.Meet.{off, slope, gap, at, on_itself, on_vertical}
use Rattle.points_law.proofs.Sums.{par_cong, par_xor}
use Rattle.points_law.proofs.Even.{and_left, and_right, eq_z_same, is_same, is_refl, same, same_is, even_sum}
use Rattle.points_law.proofs.Sign.{sign}
use Rattle.points_law.proofs.Heights.{InColumn, covers_is, above_is}
use Rattle.points_law.proofs.Side.{pos_test, SideOf, left_side, right_side, over_mid, dot, lift_is, near_test, twice_big, dot_bound, AllSmall, if_covered}
use Rattle.points_law.proofs.Column.{cv, ab, cv_low, cv_high, cv_run, no_root, among, joined, scaled_test, vertical_cover, differ, AllOrdered, one_next}
use Rattle.points_law.proofs.Truth.{both_true, and_none}

-- how far f is above v at v's x, times the run of f
abbrev pub over_pt : Edge → Pt → ℤ
over_pt f v = (rise f *ℤ v.x +ℤ off f) -ℤ run f *ℤ v.y

abbrev pub higher : Edge → Pt → Bool
higher f v = lt_z (pos 0) (over_pt f v)

-- the chosen edges strictly above v, just right of it and just left of it
abbrev pub east : (Edge → Bool) → List Edge → Pt → Bool
east a es v = par (λ f. a f ∧∧ (cv f v.x ∧∧ higher f v)) es

abbrev pub west : (Edge → Bool) → List Edge → Pt → Bool
west a es v = par (λ f. a f ∧∧ (cv f (v.x -ℤ pos 1) ∧∧ higher f v)) es

abbrev pub slopes : Edge → Bool
slopes f = lt_z f.p.x f.q.x

abbrev pub starts : Edge → Pt → Bool
starts f v = is v f.p ∧∧ slopes f

abbrev pub stops : Edge → Pt → Bool
stops f v = is v f.q ∧∧ slopes f

abbrev pub goes_up : Edge → Pt → Bool
goes_up f v = is v f.p ∧∧ not (slopes f)

-- ---- a vertex on an edge is an end of it
abbrev pub whole : Pt → Point
whole v = record { x = v.x; y = v.y; n = pos 1; positive = record { lt = tt } }

abbrev pub EndsAt : Edge → Pt → Type 0
EndsAt e v = (v ≡ e.p) ⊎ (v ≡ e.q)

start_of : (e : Edge) → On e (whole e.p)
start_of e = record { m = pos 0; n = pos 1; m_low = record { le = tt }; m_high = record { le = tt }; n_positive = record { lt = tt }; at_x = first e.p.x (run e); at_y = first e.p.y (rise e) }
  where
    first : (x r : ℤ) → pos 1 *ℤ x ≡ pos 1 *ℤ (pos 1 *ℤ x +ℤ pos 0 *ℤ r)
    first x r = omega (arith, ints)

stop_of : (e : Edge) → On e (whole e.q)
stop_of e = record { m = pos 1; n = pos 1; m_low = record { le = tt }; m_high = record { le = tt }; n_positive = record { lt = tt }; at_x = last e.p.x e.q.x; at_y = last e.p.y e.q.y }
  where
    last : (x y : ℤ) → pos 1 *ℤ y ≡ pos 1 *ℤ (pos 1 *ℤ x +ℤ pos 1 *ℤ (y -ℤ x))
    last x y = omega (arith, ints)

on_end : (e : Edge) (v : Pt) → EndsAt e v → On e (whole v)
on_end e v (inl h) = subst (λ w. On e (whole w)) (sym h) (start_of e)
on_end e v (inr h) = subst (λ w. On e (whole w)) (sym h) (stop_of e)

flat_x : (r x p : ℤ) → r *ℤ x ≡ pos 1 *ℤ (r *ℤ p +ℤ (x -ℤ p) *ℤ r)
flat_x r x p = simp (once_left, expand) (omega (arith, linear))

flat_y : (r s x y p t : ℤ) → (s *ℤ x +ℤ (t *ℤ r -ℤ p *ℤ s)) -ℤ r *ℤ y ≡ pos 0 → r *ℤ y ≡ pos 1 *ℤ (r *ℤ t +ℤ (x -ℤ p) *ℤ s)
flat_y r s x y p t h = simp (once_left, expand) (omega (arith, linear, simp expand at h))

pub on_sloping : (f : Edge) (v : Pt) → pos 0 <ℤ run f → f.p.x ≤ℤ v.x → v.x ≤ℤ f.q.x → over_pt f v ≡ pos 0 → On f (whole v)
on_sloping f v r i j h = record {
  m = v.x -ℤ f.p.x;
  n = run f;
  m_low = gap_is f.p.x v.x i;
  m_high = high f.p.x v.x f.q.x j;
  n_positive = r;
  at_x = flat_x (run f) v.x f.p.x;
  at_y = flat_y (run f) (rise f) v.x v.y f.p.x f.p.y h;
}
  where
    high : (p x q : ℤ) → x ≤ℤ q → (x -ℤ p) ≤ℤ (q -ℤ p)
    high p x q i = omega (arith, ints)

upright_x : (s x p m r : ℤ) → x ≡ p → r ≡ pos 0 → s *ℤ x ≡ pos 1 *ℤ (s *ℤ p +ℤ m *ℤ r)
upright_x s x p m r h i = ap (λ (t : ℤ). s *ℤ t) h ∙ plain s p m ∙ ap (λ (t : ℤ). pos 1 *ℤ (s *ℤ p +ℤ m *ℤ t)) (sym i)
  where
    plain : (s p m : ℤ) → s *ℤ p ≡ pos 1 *ℤ (s *ℤ p +ℤ m *ℤ pos 0)
    plain s p m = simp (none_right, once_left) (omega (arith, linear))

pub on_upright : (f : Edge) (v : Pt) → f.p.x ≡ f.q.x → v.x ≡ f.p.x → f.p.y ≤ℤ v.y → v.y ≤ℤ f.q.y → f.p.y <ℤ f.q.y → On f (whole v)
on_upright f v u x i j r = record {
  m = v.y -ℤ f.p.y;
  n = rise f;
  m_low = gap_is f.p.y v.y i;
  m_high = high f.p.y v.y f.q.y j;
  n_positive = strict_gap_is f.p.y f.q.y r;
  at_x = upright_x (rise f) v.x f.p.x (v.y -ℤ f.p.y) (run f) x (no_gap_is f.p.x f.q.x u);
  at_y = flat_x (rise f) v.y f.p.y;
}
  where
    high : (p x q : ℤ) → x ≤ℤ q → (x -ℤ p) ≤ℤ (q -ℤ p)
    high p x q i = omega (arith, ints)

whole_at : (v w : Pt) → IsAt w (whole v) → v ≡ w
whole_at v w h = same_point v w (h.0 ∙ once_left w.x) (h.1 ∙ once_left w.y)

ends_from : (f : Edge) (v : Pt) → IsEnd f (whole v) → EndsAt f v
ends_from f v (inl h) = inl (whole_at v f.p h)
ends_from f v (inr h) = inr (whole_at v f.q h)

-- where v is an end of e
pub end_there : (e f : Edge) (v : Pt) → (¬ (e ≡ f) → MeetAtEnds e f) → EndsAt e v → On f (whole v) → (t : Bool) → same e f ≡ t → EndsAt f v
end_there e f v m h o true s = subst (λ g. EndsAt g v) (same_is e f s) h
end_there e f v m h o false s = ends_from f v (m (differ e f s) (whole v) (on_end e v h) o).1

pub record Vertex (es : List Edge) (v : Pt) : Type 0 where
  pub edge : Edge
  pub inside : In edge es
  pub ends : EndsAt edge v

pub vertex_end : (es : List Edge) → Noded es → (v : Pt) → Vertex es v → (f : Edge) → In f es → On f (whole v) → EndsAt f v
vertex_end es n v h f i o = end_there h.edge f v (n h.edge f h.inside i) h.ends o (same h.edge f) refl

-- ---- from just left of v to just right of it: an edge that goes up from v makes the difference
over_vertex : Pt → Pt → Bool
over_vertex v w = eq_z w.x v.x ∧∧ lt_z v.y w.y

at_p : (r s px py y : ℤ) → (s *ℤ px +ℤ (py *ℤ r -ℤ px *ℤ s)) -ℤ r *ℤ y ≡ r *ℤ (py -ℤ y)
at_p r s px py y = simp expand (omega (arith, linear))

at_q : (px py qx qy y : ℤ) → ((qy -ℤ py) *ℤ qx +ℤ (py *ℤ (qx -ℤ px) -ℤ px *ℤ (qy -ℤ py))) -ℤ (qx -ℤ px) *ℤ y ≡ (qx -ℤ px) *ℤ (qy -ℤ y)
at_q px py qx qy y = simp expand (omega (arith, linear))

higher_p : (f : Edge) (v : Pt) → pos 0 <ℤ run f → f.p.x ≡ v.x → lt_z v.y f.p.y ≡ higher f v
higher_p f v r h = scaled_test (run f) v.y f.p.y r ∙ ap (lt_z (pos 0)) (sym (at_p (run f) (rise f) f.p.x f.p.y v.y)) ∙ ap (λ (t : ℤ). lt_z (pos 0) ((rise f *ℤ t +ℤ off f) -ℤ run f *ℤ v.y)) h

higher_q : (f : Edge) (v : Pt) → pos 0 <ℤ run f → f.q.x ≡ v.x → lt_z v.y f.q.y ≡ higher f v
higher_q f v r h = scaled_test (run f) v.y f.q.y r ∙ ap (lt_z (pos 0)) (sym (at_q f.p.x f.p.y f.q.x f.q.y v.y)) ∙ ap (λ (t : ℤ). lt_z (pos 0) ((rise f *ℤ t +ℤ off f) -ℤ run f *ℤ v.y)) h

parts_at : (p q k : ℤ) → p <ℤ q → (le_z p k ∧∧ lt_z k q) ⊕ (le_z p (k -ℤ pos 1) ∧∧ lt_z (k -ℤ pos 1) q) ≡ eq_z p k ⊕ eq_z q k
parts_at p q k h = grind (arith, ints)

is_slope : (p q : ℤ) → p <ℤ q → not (lt_z p q) ≡ false
is_slope p q h = grind (arith, ints)

plus_none : (x a b c : Bool) → x ≡ a ⊕ b → c ≡ false → x ≡ (a ⊕ b) ⊕ c
plus_none x a b c h i = grind arith

differ_sloping : (f : Edge) (v : Pt) → pos 0 <ℤ run f → (cv f v.x ∧∧ higher f v) ⊕ (cv f (v.x -ℤ pos 1) ∧∧ higher f v) ≡ (over_vertex v f.p ⊕ over_vertex v f.q) ⊕ goes_up f v
unfolding over_vertex
differ_sloping f v r = plus_none ((cv f v.x ∧∧ higher f v) ⊕ (cv f (v.x -ℤ pos 1) ∧∧ higher f v)) (over_vertex v f.p) (over_vertex v f.q) (goes_up f v)
    (joined (cv f v.x) (cv f (v.x -ℤ pos 1)) (eq_z f.p.x v.x) (eq_z f.q.x v.x) (higher f v) (higher f v) (lt_z v.y f.p.y) (lt_z v.y f.q.y) (higher f v)
    (λ h. refl) (λ h. refl) (λ h. higher_p f v r (eq_z_same f.p.x v.x h)) (λ h. higher_q f v r (eq_z_same f.q.x v.x h))
    (parts_at f.p.x f.q.x v.x (from_strict_gap f.p.x f.q.x r)))
    (and_none (is v f.p) (not (slopes f)) (is_slope f.p.x f.q.x (from_strict_gap f.p.x f.q.x r)))

no_cover : (c d h a b u : Bool) → c ≡ false → d ≡ false → a ⊕ b ≡ u → (c ∧∧ h) ⊕ (d ∧∧ h) ≡ (a ⊕ b) ⊕ u
no_cover c d h a b u i j k = grind arith

-- of an upright edge: v is at its lower end, or it has both or no end above v
upright_case : (px py qx qy x y : ℤ) → px ≡ qx → py <ℤ qy → (x ≡ px → py ≤ℤ y → y ≤ℤ qy → (y ≡ py) ⊎ (y ≡ qy))
    → (eq_z px x ∧∧ lt_z y py) ⊕ (eq_z qx x ∧∧ lt_z y qy) ≡ (eq_z x px ∧∧ eq_z y py) ∧∧ not (lt_z px qx)
upright_case px py qx qy x y h r n = grind (arith, ints)

y_end : (f : Edge) (v : Pt) → EndsAt f v → (v.y ≡ f.p.y) ⊎ (v.y ≡ f.q.y)
y_end f v (inl h) = inl (ap (λ (w : Pt). w.y) h)
y_end f v (inr h) = inr (ap (λ (w : Pt). w.y) h)

differ_upright : (es : List Edge) → Noded es → (v : Pt) → Vertex es v → (f : Edge) → In f es → f.p.x ≡ f.q.x → f.p.y <ℤ f.q.y
    → (cv f v.x ∧∧ higher f v) ⊕ (cv f (v.x -ℤ pos 1) ∧∧ higher f v) ≡ (over_vertex v f.p ⊕ over_vertex v f.q) ⊕ goes_up f v
unfolding over_vertex
differ_upright es n v h f i x y = no_cover (cv f v.x) (cv f (v.x -ℤ pos 1)) (higher f v) (over_vertex v f.p) (over_vertex v f.q) (goes_up f v)
    (vertical_cover f.p.x f.q.x v.x x) (vertical_cover f.p.x f.q.x (v.x -ℤ pos 1) x)
    (upright_case f.p.x f.p.y f.q.x f.q.y v.x v.y x y (λ a b c. y_end f v (vertex_end es n v h f i (on_upright f v x a b c y))))

differ_each : (es : List Edge) → Noded es → (v : Pt) → Vertex es v → (f : Edge) → In f es → Ordered f
    → (cv f v.x ∧∧ higher f v) ⊕ (cv f (v.x -ℤ pos 1) ∧∧ higher f v) ≡ (over_vertex v f.p ⊕ over_vertex v f.q) ⊕ goes_up f v
differ_each es n v h f i (inl o) = differ_sloping f v (strict_gap_is f.p.x f.q.x o)
differ_each es n v h f i (inr o) = differ_upright es n v h f i o.0 o.1

spread3 : (a x y u w : Bool) → x ⊕ y ≡ u ⊕ w → (a ∧∧ x) ⊕ (a ∧∧ y) ≡ (a ∧∧ u) ⊕ (a ∧∧ w)
spread3 a x y u w h = grind arith

pub east_west : (es : List Edge) → Noded es → AllOrdered es → (a : Edge → Bool) → Even a es → (v : Pt) → Vertex es v
    → east a es v ⊕ west a es v ≡ par (λ f. a f ∧∧ goes_up f v) es
east_west es n o a ev v h =
    par_xor (λ f. a f ∧∧ (cv f v.x ∧∧ higher f v)) (λ f. a f ∧∧ (cv f (v.x -ℤ pos 1) ∧∧ higher f v)) es
    ∙ par_cong (λ f. a f ∧∧ (cv f v.x ∧∧ higher f v) ⊕ a f ∧∧ (cv f (v.x -ℤ pos 1) ∧∧ higher f v)) (λ f. a f ∧∧ (over_vertex v f.p ⊕ over_vertex v f.q) ⊕ a f ∧∧ goes_up f v) es
    (λ f i. spread3 (a f) (cv f v.x ∧∧ higher f v) (cv f (v.x -ℤ pos 1) ∧∧ higher f v) (over_vertex v f.p ⊕ over_vertex v f.q) (goes_up f v) (differ_each es n v h f i (o f i)))
    ∙ sym (par_xor (λ f. a f ∧∧ (over_vertex v f.p ⊕ over_vertex v f.q)) (λ f. a f ∧∧ goes_up f v) es)
    ∙ ap (λ (t : Bool). t ⊕ par (λ f. a f ∧∧ goes_up f v) es) (even_sum a es ev (over_vertex v))

-- ---- an edge that goes right from v
at_start : (re rf se sf of px py : ℤ) → (re *ℤ sf -ℤ rf *ℤ se) *ℤ px +ℤ (re *ℤ of -ℤ rf *ℤ (py *ℤ re -ℤ px *ℤ se)) *ℤ pos 1 ≡ re *ℤ ((sf *ℤ px +ℤ of) -ℤ rf *ℤ py)
at_start re rf se sf of px py = simp expand (omega (arith, linear))

at_stop : (rf sf of px py qx qy : ℤ) → ((qx -ℤ px) *ℤ sf -ℤ rf *ℤ (qy -ℤ py)) *ℤ qx +ℤ ((qx -ℤ px) *ℤ of -ℤ rf *ℤ (py *ℤ (qx -ℤ px) -ℤ px *ℤ (qy -ℤ py))) *ℤ pos 1 ≡ (qx -ℤ px) *ℤ ((sf *ℤ qx +ℤ of) -ℤ rf *ℤ qy)
at_stop rf sf of px py qx qy = simp expand (omega (arith, linear))

by_factor : (r x y : ℤ) → pos 0 <ℤ r → y ≡ r *ℤ x → lt_z (pos 0) y ≡ lt_z (pos 0) x
by_factor r x y h e = ap (lt_z (pos 0)) e ∙ pos_test r x h

not_zero_factor : (r x y : ℤ) → pos 0 <ℤ r → y ≡ r *ℤ x → ¬ (x ≡ pos 0) → ¬ (y ≡ pos 0)
not_zero_factor r x y h e n z = by_sign x
    (λ s. absurd (less (r *ℤ neg_ℤ x) (r *ℤ x) (mul_neg r x) (mul_pos r (neg_ℤ x) h (negated x s)) (sym e ∙ z)))
    (λ s. n s)
    (λ s. absurd (positive_is_not_zero (r *ℤ x) (mul_pos r x h s) (sym e ∙ z)))
  where
    less : (a b : ℤ) → a ≡ neg_ℤ b → pos 0 <ℤ a → b ≡ pos 0 → ⊥
    less a b h i j = omega (arith, ints)

no_height : (f : Edge) (v : Pt) → v ≡ f.p → higher f v ≡ false
no_height f v h = ap (λ (w : Pt). higher f w) h ∙ ap (lt_z (pos 0)) (at_p (run f) (rise f) f.p.x f.p.y f.p.y ∙ times_no_gap (run f) f.p.y)

no_height_q : (f : Edge) (v : Pt) → v ≡ f.q → higher f v ≡ false
no_height_q f v h = ap (λ (w : Pt). higher f w) h ∙ ap (lt_z (pos 0)) (at_q f.p.x f.p.y f.q.x f.q.y f.q.y ∙ times_no_gap (run f) f.q.y)

pub cover_p : (p q : ℤ) → lt_z p q ≡ true → le_z p p ∧∧ lt_z p q ≡ true
cover_p p q h = grind (arith, ints)

pub cover_q : (p q : ℤ) → lt_z p q ≡ true → le_z p (q -ℤ pos 1) ∧∧ lt_z (q -ℤ pos 1) q ≡ true
cover_q p q h = grind (arith, ints)

at_it : (c x h s : Bool) → c ≡ true → h ≡ false → s ≡ true → c ∧∧ x ≡ (c ∧∧ h) ⊕ (s ∧∧ x)
at_it c x h s i j k = grind arith

off_it : (c x h s : Bool) → (c ≡ true → x ≡ h) → s ≡ false → c ∧∧ x ≡ (c ∧∧ h) ⊕ (s ∧∧ x)
off_it c x h s i k = grind arith

pub at_same : (k : ℤ) → (pos 1 *ℤ k) ≤ℤ k
at_same k = omega (arith, ints)

sloped : (p q k : ℤ) → p ≤ℤ k → k <ℤ q → lt_z p q ≡ true
sloped p q k h i = grind (arith, ints)

-- an edge that covers the column right of v ends there only where it starts, and likewise on the left
not_at_start : (f : Edge) (v : Pt) → cv f v.x ≡ true → starts f v ≡ false → EndsAt f v → ⊥
not_at_start f v c t (inl h) = false≢true (sym t ∙ both_true (is v f.p) (slopes f) (subst (λ w. is v w ≡ true) h (is_refl v)) (sloped f.p.x f.q.x v.x (cv_low f v.x c) (cv_high f v.x c)))
not_at_start f v c t (inr h) = never v.x f.q.x (ap (λ (w : Pt). w.x) h) (cv_high f v.x c)
  where
    never : (x q : ℤ) → x ≡ q → x <ℤ q → ⊥
    never x q h i = omega (arith, ints)

not_at_stop : (f : Edge) (v : Pt) → cv f (v.x -ℤ pos 1) ≡ true → stops f v ≡ false → EndsAt f v → ⊥
not_at_stop f v c t (inl h) = never v.x f.p.x (ap (λ (w : Pt). w.x) h) (cv_low f (v.x -ℤ pos 1) c)
  where
    never : (x p : ℤ) → x ≡ p → p ≤ℤ (x -ℤ pos 1) → ⊥
    never x p h i = omega (arith, ints)
not_at_stop f v c t (inr h) = false≢true (sym t ∙ both_true (is v f.q) (slopes f) (subst (λ w. is v w ≡ true) h (is_refl v)) (sloped f.p.x f.q.x (v.x -ℤ pos 1) (cv_low f (v.x -ℤ pos 1) c) (cv_high f (v.x -ℤ pos 1) c)))

start_near : (es : List Edge) → Noded es → (e f : Edge) → In e es → In f es → slopes e ≡ true → ¬ (e ≡ f) → cv f e.p.x ≡ true → starts f e.p ≡ false → ab f e e.p.x ≡ higher f e.p
start_near es n e f i j s d c t =
    sign (slope f e) (gap f e) e.p.x e.p.x (pos 1) (no_root e f e.p.x (n e f i j d) (cover_p e.p.x e.q.x s) c) (at_same e.p.x) (one_next e.p.x)
    (not_zero_factor (run e) (over_pt f e.p) (slope f e *ℤ e.p.x +ℤ gap f e *ℤ pos 1) (cv_run e e.p.x (cover_p e.p.x e.q.x s)) is_it
    (λ z. not_at_start f e.p c t (vertex_end es n e.p (record { edge = e; inside = i; ends = inl refl }) f j (on_sloping f e.p (cv_run f e.p.x c) (cv_low f e.p.x c) (weak e.p.x f.q.x (cv_high f e.p.x c)) z))))
    ∙ by_factor (run e) (over_pt f e.p) (slope f e *ℤ e.p.x +ℤ gap f e *ℤ pos 1) (cv_run e e.p.x (cover_p e.p.x e.q.x s)) is_it
  where
    is_it : slope f e *ℤ e.p.x +ℤ gap f e *ℤ pos 1 ≡ run e *ℤ over_pt f e.p
    is_it = at_start (run e) (run f) (rise e) (rise f) (off f) e.p.x e.p.y

start_each : (es : List Edge) → Noded es → (e f : Edge) → In e es → In f es → slopes e ≡ true → (t : Bool) → starts f e.p ≡ t → (u : Bool) → same e f ≡ u
    → cv f e.p.x ∧∧ ab f e e.p.x ≡ (cv f e.p.x ∧∧ higher f e.p) ⊕ (starts f e.p ∧∧ ab f e e.p.x)
start_each es n e f i j s true t u d = at_it (cv f e.p.x) (ab f e e.p.x) (higher f e.p) (starts f e.p)
    (subst (λ (x : ℤ). le_z f.p.x x ∧∧ lt_z x f.q.x ≡ true) (sym (ap (λ (w : Pt). w.x) at)) (cover_p f.p.x f.q.x (and_right (is e.p f.p) (slopes f) t)))
    (no_height f e.p at) t
  where
    at : e.p ≡ f.p
    at = is_same e.p f.p (and_left (is e.p f.p) (slopes f) t)
start_each es n e f i j s false t true d = absurd (false≢true (sym t ∙ both_true (is e.p f.p) (slopes f) (subst (λ g. is e.p g.p ≡ true) (same_is e f d) (is_refl e.p)) (subst (λ g. slopes g ≡ true) (same_is e f d) s)))
start_each es n e f i j s false t false d = off_it (cv f e.p.x) (ab f e e.p.x) (higher f e.p) (starts f e.p) (λ c. start_near es n e f i j s (differ e f d) c t) t

spread_sum : (a x u w : Bool) → x ≡ u ⊕ w → a ∧∧ x ≡ (a ∧∧ u) ⊕ (a ∧∧ w)
spread_sum a x u w h = grind arith

-- the chosen edges above e just right of v: those above v, and those from v that are above e
pub above_start : (es : List Edge) → Noded es → (a : Edge → Bool) (e : Edge) → In e es → slopes e ≡ true
    → among a es e e.p.x ≡ east a es e.p ⊕ par (λ f. a f ∧∧ (starts f e.p ∧∧ ab f e e.p.x)) es
above_start es n a e i s =
    par_cong (λ f. a f ∧∧ (cv f e.p.x ∧∧ ab f e e.p.x)) (λ f. a f ∧∧ (cv f e.p.x ∧∧ higher f e.p) ⊕ a f ∧∧ (starts f e.p ∧∧ ab f e e.p.x)) es
    (λ f j. spread_sum (a f) (cv f e.p.x ∧∧ ab f e e.p.x) (cv f e.p.x ∧∧ higher f e.p) (starts f e.p ∧∧ ab f e e.p.x) (start_each es n e f i j s (starts f e.p) refl (same e f) refl))
    ∙ sym (par_xor (λ f. a f ∧∧ (cv f e.p.x ∧∧ higher f e.p)) (λ f. a f ∧∧ (starts f e.p ∧∧ ab f e e.p.x)) es)

-- ---- an edge that comes to v from the left
pub back_low : (k : ℤ) → (pos 1 *ℤ (k -ℤ pos 1)) ≤ℤ k
back_low k = omega (arith, ints)

pub back_high : (k : ℤ) → k ≤ℤ (pos 1 *ℤ (k -ℤ pos 1 +ℤ pos 1))
back_high k = omega (arith, ints)

stop_near : (es : List Edge) → Noded es → (e f : Edge) → In e es → In f es → slopes e ≡ true → ¬ (e ≡ f) → cv f (e.q.x -ℤ pos 1) ≡ true → stops f e.q ≡ false → ab f e (e.q.x -ℤ pos 1) ≡ higher f e.q
stop_near es n e f i j s d c t =
    sign (slope f e) (gap f e) (e.q.x -ℤ pos 1) e.q.x (pos 1) (no_root e f (e.q.x -ℤ pos 1) (n e f i j d) (cover_q e.p.x e.q.x s) c) (back_low e.q.x) (back_high e.q.x)
    (not_zero_factor (run e) (over_pt f e.q) (slope f e *ℤ e.q.x +ℤ gap f e *ℤ pos 1) (cv_run e (e.q.x -ℤ pos 1) (cover_q e.p.x e.q.x s)) is_it
    (λ z. not_at_stop f e.q c t (vertex_end es n e.q (record { edge = e; inside = i; ends = inr refl }) f j (on_sloping f e.q (cv_run f (e.q.x -ℤ pos 1) c) (below_successor f.p.x e.q.x (cv_low f (e.q.x -ℤ pos 1) c)) (past_predecessor e.q.x f.q.x (cv_high f (e.q.x -ℤ pos 1) c)) z))))
    ∙ by_factor (run e) (over_pt f e.q) (slope f e *ℤ e.q.x +ℤ gap f e *ℤ pos 1) (cv_run e (e.q.x -ℤ pos 1) (cover_q e.p.x e.q.x s)) is_it
  where
    is_it : slope f e *ℤ e.q.x +ℤ gap f e *ℤ pos 1 ≡ run e *ℤ over_pt f e.q
    is_it = at_stop (run f) (rise f) (off f) e.p.x e.p.y e.q.x e.q.y

stop_each : (es : List Edge) → Noded es → (e f : Edge) → In e es → In f es → slopes e ≡ true → (t : Bool) → stops f e.q ≡ t → (u : Bool) → same e f ≡ u
    → cv f (e.q.x -ℤ pos 1) ∧∧ ab f e (e.q.x -ℤ pos 1) ≡ (cv f (e.q.x -ℤ pos 1) ∧∧ higher f e.q) ⊕ (stops f e.q ∧∧ ab f e (e.q.x -ℤ pos 1))
stop_each es n e f i j s true t u d = at_it (cv f (e.q.x -ℤ pos 1)) (ab f e (e.q.x -ℤ pos 1)) (higher f e.q) (stops f e.q)
    (subst (λ (x : ℤ). le_z f.p.x (x -ℤ pos 1) ∧∧ lt_z (x -ℤ pos 1) f.q.x ≡ true) (sym (ap (λ (w : Pt). w.x) at)) (cover_q f.p.x f.q.x (and_right (is e.q f.q) (slopes f) t)))
    (no_height_q f e.q at) t
  where
    at : e.q ≡ f.q
    at = is_same e.q f.q (and_left (is e.q f.q) (slopes f) t)
stop_each es n e f i j s false t true d = absurd (false≢true (sym t ∙ both_true (is e.q f.q) (slopes f) (subst (λ g. is e.q g.q ≡ true) (same_is e f d) (is_refl e.q)) (subst (λ g. slopes g ≡ true) (same_is e f d) s)))
stop_each es n e f i j s false t false d = off_it (cv f (e.q.x -ℤ pos 1)) (ab f e (e.q.x -ℤ pos 1)) (higher f e.q) (stops f e.q) (λ c. stop_near es n e f i j s (differ e f d) c t) t

pub above_stop : (es : List Edge) → Noded es → (a : Edge → Bool) (e : Edge) → In e es → slopes e ≡ true
    → among a es e (e.q.x -ℤ pos 1) ≡ west a es e.q ⊕ par (λ f. a f ∧∧ (stops f e.q ∧∧ ab f e (e.q.x -ℤ pos 1))) es
above_stop es n a e i s =
    par_cong (λ f. a f ∧∧ (cv f (e.q.x -ℤ pos 1) ∧∧ ab f e (e.q.x -ℤ pos 1))) (λ f. a f ∧∧ (cv f (e.q.x -ℤ pos 1) ∧∧ higher f e.q) ⊕ a f ∧∧ (stops f e.q ∧∧ ab f e (e.q.x -ℤ pos 1))) es
    (λ f j. spread_sum (a f) (cv f (e.q.x -ℤ pos 1) ∧∧ ab f e (e.q.x -ℤ pos 1)) (cv f (e.q.x -ℤ pos 1) ∧∧ higher f e.q) (stops f e.q ∧∧ ab f e (e.q.x -ℤ pos 1)) (stop_each es n e f i j s (stops f e.q) refl (same e f) refl))
    ∙ sym (par_xor (λ f. a f ∧∧ (cv f (e.q.x -ℤ pos 1) ∧∧ higher f e.q)) (λ f. a f ∧∧ (stops f e.q ∧∧ ab f e (e.q.x -ℤ pos 1))) es)

-- ---- an upright edge
one : pos 0 <ℤ pos 1
one = record { lt = tt }

pub record Upright (e : Edge) : Type 0 where
  pub flat : e.p.x ≡ e.q.x
  pub tall : e.p.y <ℤ e.q.y

pub run_none : (e : Edge) → Upright e → run e ≡ pos 0
run_none e u = no_gap_is e.p.x e.q.x u.flat

pub rise_some : (e : Edge) → Upright e → pos 0 <ℤ rise e
rise_some e u = strict_gap_is e.p.y e.q.y u.tall

-- f's height at e's two ends
drop_by : (s o r x py qy : ℤ) → (s *ℤ x +ℤ o) -ℤ r *ℤ qy ≡ ((s *ℤ x +ℤ o) -ℤ r *ℤ py) -ℤ r *ℤ (qy -ℤ py)
drop_by s o r x py qy = simp expand (omega (arith, linear))

lower_end : (e f : Edge) → Upright e → pos 0 <ℤ run f → over_pt f e.q <ℤ over_pt f e.p
lower_end e f u r = less (over_pt f e.p) (over_pt f e.q) (run f *ℤ rise e) it (mul_pos (run f) (rise e) r (rise_some e u))
  where
    less : (a b c : ℤ) → b ≡ a -ℤ c → pos 0 <ℤ c → b <ℤ a
    less a b c h i = omega (arith, ints)

    it : over_pt f e.q ≡ over_pt f e.p -ℤ run f *ℤ rise e
    it = ap (λ (t : ℤ). (rise f *ℤ t +ℤ off f) -ℤ run f *ℤ e.q.y) (sym u.flat) ∙ drop_by (rise f) (off f) (run f) e.p.x e.p.y e.q.y

mid_sum : (s o r px py qx qy : ℤ) → (s *ℤ (px +ℤ qx) +ℤ o *ℤ pos 2) -ℤ r *ℤ (py +ℤ qy) ≡ ((s *ℤ px +ℤ o) -ℤ r *ℤ py) +ℤ ((s *ℤ qx +ℤ o) -ℤ r *ℤ qy)
mid_sum s o r px py qx qy = simp expand (omega (arith, linear))

end_height : (o c s r y : ℤ) → pos 1 *ℤ o +ℤ c *ℤ s ≡ (pos 1 *ℤ r) *ℤ y → (s *ℤ c +ℤ o) -ℤ r *ℤ y ≡ pos 0
end_height o c s r y h = simp expand (omega (arith, linear, simp once_left at h))

no_ends : (e f : Edge) → Upright e → (r : pos 0 <ℤ run f) → over_pt f e.q <ℤ pos 0 → pos 0 <ℤ over_pt f e.p → IsEnd e (at f r e.p.x (pos 1) one) → ⊥
no_ends e f u r h i (inl k) = zero_is_not_positive (over_pt f e.p) (end_height (off f) e.p.x (rise f) (run f) e.p.y k.1) i
no_ends e f u r h i (inr k) = never (over_pt f e.q) (ap (λ (t : ℤ). (rise f *ℤ t +ℤ off f) -ℤ run f *ℤ e.q.y) (sym u.flat) ∙ end_height (off f) e.p.x (rise f) (run f) e.q.y k.1) h
  where
    never : (a : ℤ) → a ≡ pos 0 → a <ℤ pos 0 → ⊥
    never a h i = omega (arith, ints)

not_between : (e f : Edge) → MeetAtEnds e f → Upright e → pos 0 <ℤ run f → f.p.x ≤ℤ e.p.x → e.p.x ≤ℤ f.q.x → over_pt f e.q <ℤ pos 0 → pos 0 <ℤ over_pt f e.p → ⊥
not_between e f m u r i j h k = no_ends e f u r h k
    (m (at f r e.p.x (pos 1) one)
    (on_vertical f e r e.p.x refl (run_none e u) (rise_some e u) (above_p (rise f) (off f) (run f) e.p.x e.p.y k) (below_q (rise f) (off f) (run f) e.p.x e.q.y (subst (λ (t : ℤ). ((rise f *ℤ t +ℤ off f) -ℤ run f *ℤ e.q.y) <ℤ pos 0) (sym u.flat) h)))
    (on_itself f r e.p.x (pos 1) one (once_from f.p.x e.p.x i) (last e.p.x f.q.x j))).0
  where
    last : (a b : ℤ) → a ≤ℤ b → a ≤ℤ (pos 1 *ℤ b)
    last a b h = omega (arith, ints)

    above_p : (s o r x y : ℤ) → pos 0 <ℤ ((s *ℤ x +ℤ o) -ℤ r *ℤ y) → (r *ℤ y) ≤ℤ (o +ℤ x *ℤ s)
    above_p s o r x y h = simp expand (omega (arith, linear))

    below_q : (s o r x y : ℤ) → ((s *ℤ x +ℤ o) -ℤ r *ℤ y) <ℤ pos 0 → (o +ℤ x *ℤ s) ≤ℤ (r *ℤ y)
    below_q s o r x y h = simp expand (omega (arith, linear))

sum_sign : (p q g : ℤ) → g ≡ p +ℤ q → q <ℤ p → (q <ℤ pos 0 → pos 0 <ℤ p → ⊥) → lt_z (pos 0) g ≡ lt_z (pos 0) p
sum_sign p q g e h n = grind (arith, ints)

sum_some : (p q g : ℤ) → g ≡ p +ℤ q → q <ℤ p → (q <ℤ pos 0 → pos 0 <ℤ p → ⊥) → ¬ (g ≡ pos 0)
sum_some p q g e h n z = grind (arith, ints)

-- f covers the column of e's side point z
side_upright : (e f : Edge) (z : Point) (d : ℤ) → SideOf e z d → Small e → Small f → MeetAtEnds e f → Upright e → pos 0 <ℤ run f → f.p.x ≤ℤ e.p.x → e.p.x ≤ℤ f.q.x → above f z ≡ higher f e.p
side_upright e f z d s a b m u r i j =
    above_is f z ∙ ap (lt_z (pos 0)) (lift_is e f z d s)
    ∙ near_test (over_mid f e) (d *ℤ dot f e) (sum_some (over_pt f e.p) (over_pt f e.q) (over_mid f e) it (lower_end e f u r) (not_between e f m u r i j))
    (twice_big d (dot f e) s.which (dot_bound e f a b).0 (dot_bound e f a b).1).0
    (twice_big d (dot f e) s.which (dot_bound e f a b).0 (dot_bound e f a b).1).1
    ∙ sum_sign (over_pt f e.p) (over_pt f e.q) (over_mid f e) it (lower_end e f u r) (not_between e f m u r i j)
  where
    it : over_mid f e ≡ over_pt f e.p +ℤ over_pt f e.q
    it = mid_sum (rise f) (off f) (run f) e.p.x e.p.y e.q.x e.q.y

not_upright : (e f : Edge) → Upright e → pos 0 <ℤ run f → ¬ (e ≡ f)
not_upright e f u r h = zero_is_not_positive (run e) (run_none e u) (subst (λ g. pos 0 <ℤ run g) (sym h) r)

left_low : (p q s : ℤ) → p ≡ q → pos 0 <ℤ s → s ≤ℤ pos 536870912 → (pos 36893488147419103232 *ℤ (p -ℤ pos 1)) ≤ℤ (K *ℤ (p +ℤ q) -ℤ pos 2 *ℤ s)
left_low p q s h i j = omega (arith, ints)

left_high : (p q s : ℤ) → p ≡ q → pos 0 <ℤ s → s ≤ℤ pos 536870912 → (K *ℤ (p +ℤ q) -ℤ pos 2 *ℤ s) <ℤ (pos 36893488147419103232 *ℤ (p -ℤ pos 1 +ℤ pos 1))
left_high p q s h i j = omega (arith, ints)

right_low : (p q s : ℤ) → p ≡ q → pos 0 <ℤ s → s ≤ℤ pos 536870912 → (pos 36893488147419103232 *ℤ p) ≤ℤ (K *ℤ (p +ℤ q) +ℤ pos 2 *ℤ s)
right_low p q s h i j = omega (arith, ints)

right_high : (p q s : ℤ) → p ≡ q → pos 0 <ℤ s → s ≤ℤ pos 536870912 → (K *ℤ (p +ℤ q) +ℤ pos 2 *ℤ s) <ℤ (pos 36893488147419103232 *ℤ (p +ℤ pos 1))
right_high p q s h i j = omega (arith, ints)

left_in : (e : Edge) → Upright e → Small e → InColumn (left e) (e.p.x -ℤ pos 1)
left_in e u s = record { low = left_low e.p.x e.q.x (rise e) u.flat (rise_some e u) s.rise_high; high = left_high e.p.x e.q.x (rise e) u.flat (rise_some e u) s.rise_high }

right_in : (e : Edge) → Upright e → Small e → InColumn (right e) e.p.x
right_in e u s = record { low = right_low e.p.x e.q.x (rise e) u.flat (rise_some e u) s.rise_high; high = right_high e.p.x e.q.x (rise e) u.flat (rise_some e u) s.rise_high }

-- at its lower end
pub up_left : (es : List Edge) → Noded es → AllSmall es → (a : Edge → Bool) (e : Edge) → In e es → Upright e → parity a es (left e) ≡ west a es e.p
up_left es n o a e i u = par_cong (λ f. a f ∧∧ counted f (left e)) (λ f. a f ∧∧ (cv f (e.p.x -ℤ pos 1) ∧∧ higher f e.p)) es
    (λ f j. ap (λ (t : Bool). a f ∧∧ (t ∧∧ above f (left e))) (covers_is (left e) (e.p.x -ℤ pos 1) (left_in e u (o e i)) f)
    ∙ if_covered (a f) (cv f (e.p.x -ℤ pos 1)) (above f (left e)) (higher f e.p)
    (λ c. side_upright e f (left e) (pos 2) (left_side e) (o e i) (o f j) (n e f i j (not_upright e f u (cv_run f (e.p.x -ℤ pos 1) c))) u (cv_run f (e.p.x -ℤ pos 1) c)
    (below_successor f.p.x e.p.x (cv_low f (e.p.x -ℤ pos 1) c)) (past_predecessor e.p.x f.q.x (cv_high f (e.p.x -ℤ pos 1) c))))

pub up_right : (es : List Edge) → Noded es → AllSmall es → (a : Edge → Bool) (e : Edge) → In e es → Upright e → parity a es (right e) ≡ east a es e.p
up_right es n o a e i u = par_cong (λ f. a f ∧∧ counted f (right e)) (λ f. a f ∧∧ (cv f e.p.x ∧∧ higher f e.p)) es
    (λ f j. ap (λ (t : Bool). a f ∧∧ (t ∧∧ above f (right e))) (covers_is (right e) e.p.x (right_in e u (o e i)) f)
    ∙ if_covered (a f) (cv f e.p.x) (above f (right e)) (higher f e.p)
    (λ c. side_upright e f (right e) (negsuc 1) (right_side e) (o e i) (o f j) (n e f i j (not_upright e f u (cv_run f e.p.x c))) u (cv_run f e.p.x c)
    (cv_low f e.p.x c) (weak e.p.x f.q.x (cv_high f e.p.x c))))

-- at its upper end
over_same : (p q : ℤ) → q <ℤ p → (q <ℤ pos 0 → pos 0 <ℤ p → ⊥) → ¬ (q ≡ pos 0) → lt_z (pos 0) p ≡ lt_z (pos 0) q
over_same p q h n z = grind (arith, ints)

over_zero : (p q : ℤ) → q <ℤ p → q ≡ pos 0 → lt_z (pos 0) p ≡ true
over_zero p q h e = grind (arith, ints)

at_end : (c x h s : Bool) → c ≡ true → x ≡ true → h ≡ false → s ≡ true → c ∧∧ x ≡ (c ∧∧ h) ⊕ s
at_end c x h s i j k l = grind arith

off_end : (c x h s : Bool) → (c ≡ true → x ≡ h) → s ≡ false → c ∧∧ x ≡ (c ∧∧ h) ⊕ s
off_end c x h s i k = grind arith

level_q : (f : Edge) (v : Pt) → v ≡ f.p → over_pt f v ≡ pos 0
level_q f v h = ap (λ (w : Pt). over_pt f w) h ∙ at_p (run f) (rise f) f.p.x f.p.y f.p.y ∙ times_no_gap (run f) f.p.y

level_s : (f : Edge) (v : Pt) → v ≡ f.q → over_pt f v ≡ pos 0
level_s f v h = ap (λ (w : Pt). over_pt f w) h ∙ at_q f.p.x f.p.y f.q.x f.q.y f.q.y ∙ times_no_gap (run f) f.q.y

pub slope_run : (f : Edge) → slopes f ≡ true → pos 0 <ℤ run f
slope_run f h = strict_gap_is f.p.x f.q.x (lt_z_told f.p.x f.q.x h)

down_east_each : (es : List Edge) → Noded es → (e f : Edge) → In e es → In f es → Upright e → (t : Bool) → starts f e.q ≡ t → cv f e.q.x ∧∧ higher f e.p ≡ (cv f e.q.x ∧∧ higher f e.q) ⊕ starts f e.q
down_east_each es n e f i j u true t = at_end (cv f e.q.x) (higher f e.p) (higher f e.q) (starts f e.q)
    (subst (λ (x : ℤ). le_z f.p.x x ∧∧ lt_z x f.q.x ≡ true) (sym (ap (λ (w : Pt). w.x) at)) (cover_p f.p.x f.q.x (and_right (is e.q f.p) (slopes f) t)))
    (over_zero (over_pt f e.p) (over_pt f e.q) (lower_end e f u (slope_run f (and_right (is e.q f.p) (slopes f) t))) (level_q f e.q at))
    (no_height f e.q at) t
  where
    at : e.q ≡ f.p
    at = is_same e.q f.p (and_left (is e.q f.p) (slopes f) t)
down_east_each es n e f i j u false t = off_end (cv f e.q.x) (higher f e.p) (higher f e.q) (starts f e.q)
    (λ c. over_same (over_pt f e.p) (over_pt f e.q) (lower_end e f u (cv_run f e.q.x c))
    (not_between e f (n e f i j (not_upright e f u (cv_run f e.q.x c))) u (cv_run f e.q.x c) (subst (λ (x : ℤ). f.p.x ≤ℤ x) (sym u.flat) (cv_low f e.q.x c)) (subst (λ (x : ℤ). x ≤ℤ f.q.x) (sym u.flat) (weak e.q.x f.q.x (cv_high f e.q.x c))))
    (λ z. not_at_start f e.q c t (vertex_end es n e.q (record { edge = e; inside = i; ends = inr refl }) f j (on_sloping f e.q (cv_run f e.q.x c) (cv_low f e.q.x c) (weak e.q.x f.q.x (cv_high f e.q.x c)) z))))
    t

down_west_each : (es : List Edge) → Noded es → (e f : Edge) → In e es → In f es → Upright e → (t : Bool) → stops f e.q ≡ t → cv f (e.q.x -ℤ pos 1) ∧∧ higher f e.p ≡ (cv f (e.q.x -ℤ pos 1) ∧∧ higher f e.q) ⊕ stops f e.q
down_west_each es n e f i j u true t = at_end (cv f (e.q.x -ℤ pos 1)) (higher f e.p) (higher f e.q) (stops f e.q)
    (subst (λ (x : ℤ). le_z f.p.x (x -ℤ pos 1) ∧∧ lt_z (x -ℤ pos 1) f.q.x ≡ true) (sym (ap (λ (w : Pt). w.x) at)) (cover_q f.p.x f.q.x (and_right (is e.q f.q) (slopes f) t)))
    (over_zero (over_pt f e.p) (over_pt f e.q) (lower_end e f u (slope_run f (and_right (is e.q f.q) (slopes f) t))) (level_s f e.q at))
    (no_height_q f e.q at) t
  where
    at : e.q ≡ f.q
    at = is_same e.q f.q (and_left (is e.q f.q) (slopes f) t)
down_west_each es n e f i j u false t = off_end (cv f (e.q.x -ℤ pos 1)) (higher f e.p) (higher f e.q) (stops f e.q)
    (λ c. over_same (over_pt f e.p) (over_pt f e.q) (lower_end e f u (cv_run f (e.q.x -ℤ pos 1) c))
    (not_between e f (n e f i j (not_upright e f u (cv_run f (e.q.x -ℤ pos 1) c))) u (cv_run f (e.q.x -ℤ pos 1) c)
    (subst (λ (x : ℤ). f.p.x ≤ℤ x) (sym u.flat) (below_successor f.p.x e.q.x (cv_low f (e.q.x -ℤ pos 1) c))) (subst (λ (x : ℤ). x ≤ℤ f.q.x) (sym u.flat) (past_predecessor e.q.x f.q.x (cv_high f (e.q.x -ℤ pos 1) c))))
    (λ z. not_at_stop f e.q c t (vertex_end es n e.q (record { edge = e; inside = i; ends = inr refl }) f j (on_sloping f e.q (cv_run f (e.q.x -ℤ pos 1) c) (below_successor f.p.x e.q.x (cv_low f (e.q.x -ℤ pos 1) c)) (past_predecessor e.q.x f.q.x (cv_high f (e.q.x -ℤ pos 1) c)) z))))
    t

pub down_right : (es : List Edge) → Noded es → AllSmall es → (a : Edge → Bool) (e : Edge) → In e es → Upright e → parity a es (right e) ≡ east a es e.q ⊕ par (λ f. a f ∧∧ starts f e.q) es
down_right es n o a e i u = up_right es n o a e i u
    ∙ ap (λ (x : ℤ). par (λ f. a f ∧∧ (cv f x ∧∧ higher f e.p)) es) u.flat
    ∙ par_cong (λ f. a f ∧∧ (cv f e.q.x ∧∧ higher f e.p)) (λ f. a f ∧∧ (cv f e.q.x ∧∧ higher f e.q) ⊕ a f ∧∧ starts f e.q) es
    (λ f j. spread_sum (a f) (cv f e.q.x ∧∧ higher f e.p) (cv f e.q.x ∧∧ higher f e.q) (starts f e.q) (down_east_each es n e f i j u (starts f e.q) refl))
    ∙ sym (par_xor (λ f. a f ∧∧ (cv f e.q.x ∧∧ higher f e.q)) (λ f. a f ∧∧ starts f e.q) es)

pub down_left : (es : List Edge) → Noded es → AllSmall es → (a : Edge → Bool) (e : Edge) → In e es → Upright e → parity a es (left e) ≡ west a es e.q ⊕ par (λ f. a f ∧∧ stops f e.q) es
down_left es n o a e i u = up_left es n o a e i u
    ∙ ap (λ (x : ℤ). par (λ f. a f ∧∧ (cv f (x -ℤ pos 1) ∧∧ higher f e.p)) es) u.flat
    ∙ par_cong (λ f. a f ∧∧ (cv f (e.q.x -ℤ pos 1) ∧∧ higher f e.p)) (λ f. a f ∧∧ (cv f (e.q.x -ℤ pos 1) ∧∧ higher f e.q) ⊕ a f ∧∧ stops f e.q) es
    (λ f j. spread_sum (a f) (cv f (e.q.x -ℤ pos 1) ∧∧ higher f e.p) (cv f (e.q.x -ℤ pos 1) ∧∧ higher f e.q) (stops f e.q) (down_west_each es n e f i j u (stops f e.q) refl))
    ∙ sym (par_xor (λ f. a f ∧∧ (cv f (e.q.x -ℤ pos 1) ∧∧ higher f e.q)) (λ f. a f ∧∧ stops f e.q) es)
