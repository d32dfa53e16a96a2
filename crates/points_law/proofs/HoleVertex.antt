-- A hole's least vertex: the result lies just left of it, and a result edge lies below.
use mathlib.Core.Path.{◌≡◌, refl, sym, ◌∙◌, ap, subst}
use mathlib.Core.Bool.{Bool, true, false, not, false≢true}
use mathlib.Core.List.{List, [], ◌∷◌}
use mathlib.Core.Logic.{inl, inr}
use native.Mathlib.Omega.{arith}
use lib.IntN.{ℤ, pos, negsuc, ◌+ℤ◌, ◌-ℤ◌, ◌*ℤ◌}
use lib.Signed.{◌<ℤ◌, ◌≤ℤ◌, lt_z, le_z}
use borrow.Author.Differences.{ints}
use Rattle.geom.specs.declared.point.Pt.{Pt}
use Rattle.geom.specs.declared.edge.Edge.{Edge}
use Rattle.geom.specs.Holes.{left_of}
use Rattle.geom.proofs.Lists.{In}
use Rattle.points_law.proofs.Choices.{◌⊕◌, ◌∧∧◌, par, run, rise, Ordered, Small, Even, is, parity, counted, covers, above, K}
use Rattle.points_law.proofs.ResultOfChoices.{Edges}
use Rattle.geom.proofs.Integers.{expand, linear}
use Rattle.geom.proofs.Numbers.{from_same, below_successor, past_predecessor, weak}
use Rattle.points_law.proofs.Meet.{off, slope}
use Rattle.points_law.proofs.Sums.{par_cong, par_xor}
use Rattle.points_law.proofs.Even.{and_left, and_right, is_refl, same, same_is, not_true, once, even_sum}
use Rattle.points_law.proofs.Column.{cv, cv_low, cv_high, cv_run}
use Rattle.points_law.proofs.Heights.{InColumn, covers_is, above_is}
use Rattle.points_law.proofs.Side.{near_test}
use Rattle.points_law.proofs.Vertex.{over_pt, higher, west, EndsAt, Vertex, vertex_end, on_sloping}
use Rattle.points_law.proofs.Turn.{before, ends_at, not_both, round_tour}
use Rattle.points_law.proofs.Next.{majority, side_after, NoneBetween, turned, across, no_before}
use Rattle.points_law.proofs.Truth.{not_first}
use Rattle.std.proofs.lemmas.Bool.{not-true}

-- ---- each column is covered by an even number of chosen edges
cover_parts : (p q k : ℤ) → p ≤ℤ q → le_z p k ∧∧ lt_z k q ≡ le_z p k ⊕ le_z q k
cover_parts p q k h = grind (arith, ints)

ordered_x : (e : Edge) → Ordered e → e.p.x ≤ℤ e.q.x
ordered_x e (inl h) = weak e.p.x e.q.x h
ordered_x e (inr h) = from_same e.p.x e.q.x h.0

pub even_cover : (es : List Edge) → Edges es → (r : Edge → Bool) → Even r es → (k : ℤ) → par (λ f. r f ∧∧ cv f k) es ≡ false
even_cover es h r ev k = par_cong (λ f. r f ∧∧ cv f k) (λ f. r f ∧∧ (le_z f.p.x k ⊕ le_z f.q.x k)) es
    (λ f i. ap (λ (t : Bool). r f ∧∧ t) (cover_parts f.p.x f.q.x k (ordered_x f (h.ordered f i))))
    ∙ even_sum r es ev (λ w. le_z w.x k)

-- ---- the point just left of a vertex
left_low : (x : ℤ) → (K *ℤ (x -ℤ pos 1)) ≤ℤ (K *ℤ x -ℤ pos 1)
left_low x = omega (arith, ints)

left_high : (x : ℤ) → (K *ℤ x -ℤ pos 1) <ℤ (K *ℤ (x -ℤ pos 1 +ℤ pos 1))
left_high x = omega (arith, ints)

pub left_in : (v : Pt) → InColumn (left_of v) (v.x -ℤ pos 1)
left_in v = record { low = left_low v.x; high = left_high v.x }

pub lift_left : (kk r s o x y : ℤ) → (s *ℤ (kk *ℤ x -ℤ pos 1) +ℤ o *ℤ kk) -ℤ r *ℤ (kk *ℤ y) ≡ kk *ℤ ((s *ℤ x +ℤ o) -ℤ r *ℤ y) -ℤ s
lift_left kk r s o x y = simp expand (omega (arith, linear))

pub small_rise : (s : ℤ) → negsuc 536870911 ≤ℤ s → s ≤ℤ pos 536870912 → (negsuc 2305843009213693951 ≤ℤ s) × (s ≤ℤ pos 2305843009213693952)
small_rise s h i = omega (arith, ints)

above_left : (f : Edge) (v : Pt) → Small f → ¬ (over_pt f v ≡ pos 0) → above f (left_of v) ≡ higher f v
above_left f v m n = above_is f (left_of v) ∙ ap (lt_z (pos 0)) (lift_left K (run f) (rise f) (off f) v.x v.y)
    ∙ near_test (over_pt f v) (rise f) n (small_rise (rise f) m.rise_low m.rise_high).0 (small_rise (rise f) m.rise_low m.rise_high).1

if_chosen : (a c u w : Bool) → (a ≡ true → c ≡ true → u ≡ w) → a ∧∧ (c ∧∧ u) ≡ a ∧∧ (c ∧∧ w)
if_chosen a c u w h = grind arith

-- where no chosen edge comes to v from the left
abbrev pub NoneFromLeft : (Edge → Bool) → List Edge → Pt → Type 0
NoneFromLeft r es v = (f : Edge) → In f es → r f ≡ true → ¬ (v ≡ f.q)

pub level_there : (es : List Edge) → Edges es → (v : Pt) → Vertex es v → (f : Edge) → In f es → cv f (v.x -ℤ pos 1) ≡ true → ¬ (v ≡ f.q) → ¬ (over_pt f v ≡ pos 0)
level_there es h v w f i c n z = no_end (vertex_end es h.noded v w f i (on_sloping f v (cv_run f (v.x -ℤ pos 1) c) (below_successor f.p.x v.x (cv_low f (v.x -ℤ pos 1) c)) (past_predecessor v.x f.q.x (cv_high f (v.x -ℤ pos 1) c)) z))
  where
    never : (x p : ℤ) → x ≡ p → p ≤ℤ (x -ℤ pos 1) → ⊥
    never x p h i = omega (arith, ints)

    no_end : EndsAt f v → ⊥
    no_end (inl e) = never v.x f.p.x (ap (λ (w : Pt). w.x) e) (cv_low f (v.x -ℤ pos 1) c)
    no_end (inr e) = n e

pub parity_left : (es : List Edge) → Edges es → (r : Edge → Bool) → (v : Pt) → Vertex es v → NoneFromLeft r es v → parity r es (left_of v) ≡ west r es v
parity_left es h r v w n = par_cong (λ f. r f ∧∧ counted f (left_of v)) (λ f. r f ∧∧ (cv f (v.x -ℤ pos 1) ∧∧ higher f v)) es
    (λ f i. ap (λ (t : Bool). r f ∧∧ (t ∧∧ above f (left_of v))) (covers_is (left_of v) (v.x -ℤ pos 1) (left_in v) f)
    ∙ if_chosen (r f) (cv f (v.x -ℤ pos 1)) (above f (left_of v)) (higher f v)
    (λ s c. above_left f v (h.small f i) (level_there es h v w f i c (n f i s))))

-- ---- a corner of a hole at its least vertex: both its edges start there, and the turn is to the left
middle : (pe qe pf qf pg qg s t u : Bool) → pe ≡ true → qe ≡ false → qf ≡ true → pf ≡ false → pg ≡ true → qg ≡ false → u ≡ true
    → majority ((pe ∧∧ qf) ⊕ ((pe ∧∧ pf ⊕ qe ∧∧ qf) ∧∧ s)) ((pf ∧∧ qg) ⊕ ((pf ∧∧ pg ⊕ qf ∧∧ qg) ∧∧ t)) ((pg ∧∧ qe) ⊕ ((pg ∧∧ pe ⊕ qg ∧∧ qe) ∧∧ u)) ≡ true
middle pe qe pf qf pg qg s t u h i j k l m n = grind arith

pub hole_left : (es : List Edge) → Edges es → (r : Edge → Bool) → (v : Pt) (e g : Edge) → In e es → In g es → v ≡ e.p → v ≡ g.p → lt_z (pos 0) (slope g e) ≡ true → NoneBetween r es v e g → NoneFromLeft r es v
hole_left es h r v e g i j x y s none f k rf z = false≢true (sym (none f k rf at_v)
    ∙ middle (is v e.p) (is v e.q) (is v f.p) (is v f.q) (is v g.p) (is v g.q) (lt_z (pos 0) (slope e f)) (lt_z (pos 0) (slope f g)) (lt_z (pos 0) (slope g e))
    pe (not_both e (h.ordered e i) v pe) qf (not_first (is v f.p) (is v f.q) (not_both f (h.ordered f k) v) qf) pg (not_both g (h.ordered g j) v pg) s)
  where
    pe : is v e.p ≡ true
    pe = subst (λ w. is v w ≡ true) x (is_refl v)

    pg : is v g.p ≡ true
    pg = subst (λ w. is v w ≡ true) y (is_refl v)

    qf : is v f.q ≡ true
    qf = subst (λ w. is v w ≡ true) z (is_refl v)

    either : (p q : Bool) → (p ≡ true → q ≡ false) → q ≡ true → p ⊕ q ≡ true
    either p q h i = grind arith

    at_v : ends_at v f ≡ true
    at_v = either (is v f.p) (is v f.q) (not_both f (h.ordered f k) v) qf

-- all the chosen edges at v come before e, or are e
last_case : (r n fe ef fg ge s : Bool) → ge ≡ true → (r ≡ true → n ≡ true → (ef ∧∧ fg ⊕ fg ∧∧ ge) ⊕ ge ∧∧ ef ≡ false) → (n ≡ true → (fe ⊕ ef) ⊕ s ≡ true) → (n ≡ false → fe ≡ false) → (n ≡ false → s ≡ false)
    → r ∧∧ fe ⊕ s ∧∧ r ≡ r ∧∧ n
last_case r n fe ef fg ge s h i j k m = grind arith

away : (es : List Edge) → Edges es → (v : Pt) (f e : Edge) → In f es → ends_at v f ≡ false → before v f e ≡ false
away es h v f e i n = no_before (is v f.p) (is v f.q) (is v e.p) (is v e.q) (lt_z (pos 0) (slope f e)) n (not_both f (h.ordered f i) v)

not_same : (v : Pt) (f e : Edge) → ends_at v e ≡ true → ends_at v f ≡ false → same f e ≡ false
not_same v f e x n = not_true (same f e) (λ s. false≢true (sym n ∙ subst (λ w. ends_at v w ≡ true) (sym (same_is f e s)) x))

comes_before : (v : Pt) (e g : Edge) → v ≡ e.p → v ≡ g.p → is v e.q ≡ false → is v g.q ≡ false → lt_z (pos 0) (slope g e) ≡ true → before v g e ≡ true
comes_before v e g x y m n s = steep (is v g.p) (is v e.q) (is v e.p) (is v g.q) (lt_z (pos 0) (slope g e)) (subst (λ w. is v w ≡ true) y (is_refl v)) m (subst (λ w. is v w ≡ true) x (is_refl v)) n s
  where
    steep : (pg qe pe qg u : Bool) → pg ≡ true → qe ≡ false → pe ≡ true → qg ≡ false → u ≡ true → (pg ∧∧ qe) ⊕ ((pg ∧∧ pe ⊕ qg ∧∧ qe) ∧∧ u) ≡ true
    steep pg qe pe qg u h i j k l = grind arith

joined3 : (a b c d : Bool) → b ⊕ c ≡ d → d ≡ false → a ≡ true → (x : Bool) → a ≡ (x ⊕ b) ⊕ c → x ≡ true
joined3 a b c d h i j x e = grind arith

pub hole_west : (es : List Edge) → Edges es → (r : Edge → Bool) → Even r es → (v : Pt) (e g : Edge) → In e es → In g es → v ≡ e.p → v ≡ g.p → lt_z (pos 0) (slope g e) ≡ true → NoneBetween r es v e g
    → side_after r es v e ≡ true → west r es v ≡ true
hole_west es h r ev v e g i j x y s none inside =
    joined3 (side_after r es v e) (par (λ f. r f ∧∧ before v f e) es) (r e) (par (λ f. r f ∧∧ ends_at v f) es) total (ev v) inside (west r es v)
    (across es h r ev v e i ∙ ap (λ (t : Bool). t ⊕ r e) (turned es h r ev v e i at_e))
  where
    pe : is v e.p ≡ true
    pe = subst (λ w. is v w ≡ true) x (is_refl v)

    start : (p q : Bool) → p ≡ true → q ≡ false → p ⊕ q ≡ true
    start p q h i = grind arith

    at_e : ends_at v e ≡ true
    at_e = start (is v e.p) (is v e.q) pe (not_both e (h.ordered e i) v pe)

    ge : before v g e ≡ true
    ge = comes_before v e g x y (not_both e (h.ordered e i) v pe) (not_both g (h.ordered g j) v (subst (λ w. is v w ≡ true) y (is_refl v))) s

    total : par (λ f. r f ∧∧ before v f e) es ⊕ r e ≡ par (λ f. r f ∧∧ ends_at v f) es
    total = ap (λ (t : Bool). par (λ f. r f ∧∧ before v f e) es ⊕ t) (sym (once es h.distinct r e i))
        ∙ par_xor (λ f. r f ∧∧ before v f e) (λ f. same f e ∧∧ r f) es
        ∙ par_cong (λ f. r f ∧∧ before v f e ⊕ same f e ∧∧ r f) (λ f. r f ∧∧ ends_at v f) es
        (λ f k. last_case (r f) (ends_at v f) (before v f e) (before v e f) (before v f g) (before v g e) (same f e) ge (none f k)
        (λ t. round_tour es h v f e k i t at_e (same f e) refl) (away es h v f e k) (not_same v f e at_e))

-- the result lies just left of a hole's least vertex
pub hole_inside : (es : List Edge) → Edges es → (r : Edge → Bool) → Even r es → (v : Pt) (e g : Edge) → In e es → In g es → v ≡ e.p → v ≡ g.p → lt_z (pos 0) (slope g e) ≡ true → NoneBetween r es v e g
    → side_after r es v e ≡ true → parity r es (left_of v) ≡ true
hole_inside es h r ev v e g i j x y s none inside =
    parity_left es h r v (record { edge = e; inside = i; ends = inl x }) (hole_left es h r v e g i j x y s none)
    ∙ hole_west es h r ev v e g i j x y s none inside

-- and a result edge lies below that point, which begins further left
by_head : {X : Type 0} (p : X → Bool) (x : X) (xs : List X) (t : Bool) → p x ≡ t → (par p xs ≡ true → (y : X) × In y xs × (p y ≡ true)) → t ⊕ par p xs ≡ true → (y : X) × In y (x ∷ xs) × (p y ≡ true)
by_head p x xs true e f h = (x, inl refl, e)
by_head p x xs false e f h = let w = f h in (w.0, inr w.1, w.2)

found : {X : Type 0} (p : X → Bool) (xs : List X) → par p xs ≡ true → (x : X) × In x xs × (p x ≡ true)
found p [] h = absurd (false≢true h)
found p (x ∷ xs) h = by_head p x xs (p x) refl (found p xs) h

pub record Below (r : Edge → Bool) (es : List Edge) (v : Pt) : Type 0 where
  pub edge : Edge
  pub inside : In edge es
  pub chosen : r edge ≡ true
  pub covers_it : covers edge (left_of v) ≡ true
  pub not_above : above edge (left_of v) ≡ false
  pub begins : edge.p.x <ℤ v.x

rest : (a c u : Bool) → a ∧∧ (c ∧∧ u) ⊕ a ∧∧ c ≡ a ∧∧ (c ∧∧ not u)
rest a c u = grind arith

odd_rest : (x y z : Bool) → x ⊕ y ≡ z → x ≡ true → y ≡ false → z ≡ true
odd_rest x y z h i j = grind arith

pub edge_below : (es : List Edge) → Edges es → (r : Edge → Bool) → Even r es → (v : Pt) → parity r es (left_of v) ≡ true → Below r es v
edge_below es h r ev v odd = record {
  edge = it.0;
  inside = it.1;
  chosen = and_left (r it.0) (covers it.0 (left_of v) ∧∧ not (above it.0 (left_of v))) it.2;
  covers_it = cover;
  not_above = not-true (above it.0 (left_of v)) (and_right (covers it.0 (left_of v)) (not (above it.0 (left_of v))) part);
  begins = further it.0.p.x v.x (cv_low it.0 (v.x -ℤ pos 1) (sym (covers_is (left_of v) (v.x -ℤ pos 1) (left_in v) it.0) ∙ cover));
}
  where
    even : par (λ f. r f ∧∧ covers f (left_of v)) es ≡ false
    even = par_cong (λ f. r f ∧∧ covers f (left_of v)) (λ f. r f ∧∧ cv f (v.x -ℤ pos 1)) es (λ f i. ap (λ (t : Bool). r f ∧∧ t) (covers_is (left_of v) (v.x -ℤ pos 1) (left_in v) f)) ∙ even_cover es h r ev (v.x -ℤ pos 1)

    it : (f : Edge) × In f es × (r f ∧∧ (covers f (left_of v) ∧∧ not (above f (left_of v))) ≡ true)
    it = found (λ f. r f ∧∧ (covers f (left_of v) ∧∧ not (above f (left_of v)))) es
        (odd_rest (parity r es (left_of v)) (par (λ f. r f ∧∧ covers f (left_of v)) es) (par (λ f. r f ∧∧ (covers f (left_of v) ∧∧ not (above f (left_of v)))) es)
        (par_xor (λ f. r f ∧∧ counted f (left_of v)) (λ f. r f ∧∧ covers f (left_of v)) es
        ∙ par_cong (λ f. r f ∧∧ counted f (left_of v) ⊕ r f ∧∧ covers f (left_of v)) (λ f. r f ∧∧ (covers f (left_of v) ∧∧ not (above f (left_of v)))) es (λ f i. rest (r f) (covers f (left_of v)) (above f (left_of v))))
        odd even)

    part : covers it.0 (left_of v) ∧∧ not (above it.0 (left_of v)) ≡ true
    part = and_right (r it.0) (covers it.0 (left_of v) ∧∧ not (above it.0 (left_of v))) it.2

    cover : covers it.0 (left_of v) ≡ true
    cover = and_left (covers it.0 (left_of v)) (not (above it.0 (left_of v))) part

    further : (p x : ℤ) → p ≤ℤ (x -ℤ pos 1) → p <ℤ x
    further p x h = omega (arith, ints)
