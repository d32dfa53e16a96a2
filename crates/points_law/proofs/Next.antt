-- The next edge of a ring: after an edge of the result that comes to v goes the first one met clockwise, and it leaves v.
use mathlib.Core.Path.{◌≡◌, refl, sym, ◌∙◌, ap, subst}
use mathlib.Core.Bool.{Bool, true, false, cond, false≢true}
use mathlib.Core.List.{List}
use mathlib.Core.Logic.{◌⊎◌, inl, inr}
use native.Mathlib.Omega.{arith}
use lib.IntN.{ℤ, pos, ◌+ℤ◌, ◌-ℤ◌, ◌*ℤ◌}
use lib.Signed.{◌<ℤ◌, ◌≤ℤ◌, lt_z}
use borrow.Author.Differences.{ints}
use Rattle.geom.specs.declared.point.Pt.{Pt}
use Rattle.geom.specs.declared.edge.Edge.{Edge}
use Rattle.geom.proofs.Lists.{In}
use Rattle.points_law.proofs.Choices.{◌⊕◌, ◌∧∧◌, par, run, rise, Ordered, Even, is, parity, left, right}
use Rattle.points_law.proofs.ResultOfChoices.{Edges}
use Rattle.geom.proofs.Integers.{expand, linear, mul_pos, mul_nonneg, cancel_pos, by_sign, none_left}
use Rattle.geom.proofs.Numbers.{never_negative, strict_gap_is, weak}
use Rattle.geom.proofs.Tests.{lt_z_told}
use Rattle.points_law.proofs.Meet.{slope}
use Rattle.points_law.proofs.Sums.{par_cong, par_xor, par_and, par_none, and_false}
use Rattle.points_law.proofs.Even.{is_same, same, same_is, same_refl, not_true, once}
use Rattle.points_law.proofs.Heights.{is_positive}
use Rattle.points_law.proofs.Vertex.{west, slopes}
use Rattle.points_law.proofs.Turn.{before, ends_at, crossing, turned_p, turned_q, round_tour, itself_flat, not_both, run_low, second_end}

-- ---- the order round v is transitive
pub chain : (rf re rg sf se sg : ℤ) → re *ℤ (rg *ℤ sf -ℤ rf *ℤ sg) ≡ rf *ℤ (rg *ℤ se -ℤ re *ℤ sg) +ℤ rg *ℤ (re *ℤ sf -ℤ rf *ℤ se)
chain rf re rg sf se sg = simp expand (omega (arith, linear))

some_run : (r : ℤ) → pos 0 ≤ℤ r → (r ≡ pos 0) ⊎ (pos 0 <ℤ r)
some_run r h = by_sign r (λ s. absurd (never_negative r h s)) (λ s. inl s) (λ s. inr s)

-- of an edge with run 0 the rise is positive
upright_rise : (e : Edge) → Ordered e → run e ≡ pos 0 → pos 0 <ℤ rise e
upright_rise e (inl h) z = absurd (clash e.p.x e.q.x h z)
  where
    clash : (p q : ℤ) → p <ℤ q → q -ℤ p ≡ pos 0 → ⊥
    clash p q h z = omega (arith, ints)
upright_rise e (inr h) z = strict_gap_is e.p.y e.q.y h.1

nothing_steeper : (rf re sf se : ℤ) → re ≡ pos 0 → pos 0 ≤ℤ rf → pos 0 <ℤ se → pos 0 <ℤ (re *ℤ sf -ℤ rf *ℤ se) → ⊥
nothing_steeper rf re sf se z h i k = clash (re *ℤ sf) (rf *ℤ se) (ap (λ (t : ℤ). t *ℤ sf) z ∙ none_left sf) (mul_nonneg rf se h (weak (pos 0) se i)) k
  where
    clash : (a b : ℤ) → a ≡ pos 0 → pos 0 ≤ℤ b → pos 0 <ℤ (a -ℤ b) → ⊥
    clash a b h i k = omega (arith, ints)

sum_first : (a b : ℤ) → pos 0 <ℤ a → pos 0 ≤ℤ b → pos 0 <ℤ (a +ℤ b)
sum_first a b h i = omega (arith, ints)

sum_second : (a b : ℤ) → pos 0 ≤ℤ a → pos 0 <ℤ b → pos 0 <ℤ (a +ℤ b)
sum_second a b h i = omega (arith, ints)

by_runs : (f e g : Edge) → Ordered f → Ordered e → Ordered g → pos 0 <ℤ slope f e → pos 0 <ℤ slope e g → (run e ≡ pos 0) ⊎ (pos 0 <ℤ run e) → (run f ≡ pos 0) ⊎ (pos 0 <ℤ run f) → (run g ≡ pos 0) ⊎ (pos 0 <ℤ run g) → pos 0 <ℤ slope f g
by_runs f e g of oe og h i (inl z) w x = absurd (nothing_steeper (run f) (run e) (rise f) (rise e) z (run_low f of) (upright_rise e oe z) h)
by_runs f e g of oe og h i (inr r) (inr w) x = cancel_pos (run e) (slope f g) r (subst (λ (t : ℤ). pos 0 <ℤ t) (sym (chain (run f) (run e) (run g) (rise f) (rise e) (rise g)))
    (sum_first (run f *ℤ slope e g) (run g *ℤ slope f e) (mul_pos (run f) (slope e g) w i) (mul_nonneg (run g) (slope f e) (run_low g og) (weak (pos 0) (slope f e) h))))
by_runs f e g of oe og h i (inr r) (inl w) (inr x) = cancel_pos (run e) (slope f g) r (subst (λ (t : ℤ). pos 0 <ℤ t) (sym (chain (run f) (run e) (run g) (rise f) (rise e) (rise g)))
    (sum_second (run f *ℤ slope e g) (run g *ℤ slope f e) (mul_nonneg (run f) (slope e g) (run_low f of) (weak (pos 0) (slope e g) i)) (mul_pos (run g) (slope f e) x h)))
by_runs f e g of oe og h i (inr r) (inl w) (inl x) = absurd (nothing_steeper (run e) (run g) (rise e) (rise g) x (run_low e oe) (upright_rise g og x) i)

pub slope_trans : (f e g : Edge) → Ordered f → Ordered e → Ordered g → lt_z (pos 0) (slope f e) ≡ true → lt_z (pos 0) (slope e g) ≡ true → lt_z (pos 0) (slope f g) ≡ true
slope_trans f e g of oe og h i = is_positive (slope f g) (by_runs f e g of oe og (lt_z_told (pos 0) (slope f e) h) (lt_z_told (pos 0) (slope e g) i)
    (some_run (run e) (run_low e oe)) (some_run (run f) (run_low f of)) (some_run (run g) (run_low g og)))

through : (pf qf pe qe pg qg s t u : Bool) → (pf ≡ true → qf ≡ false) → (pe ≡ true → qe ≡ false) → (pg ≡ true → qg ≡ false) → (s ≡ true → t ≡ true → u ≡ true)
    → (pf ∧∧ qe) ⊕ ((pf ∧∧ pe ⊕ qf ∧∧ qe) ∧∧ s) ≡ true → (pe ∧∧ qg) ⊕ ((pe ∧∧ pg ⊕ qe ∧∧ qg) ∧∧ t) ≡ true → (pf ∧∧ qg) ⊕ ((pf ∧∧ pg ⊕ qf ∧∧ qg) ∧∧ u) ≡ true
through pf qf pe qe pg qg s t u h i j k m n = grind arith

pub before_trans : (v : Pt) (f e g : Edge) → Ordered f → Ordered e → Ordered g → before v f e ≡ true → before v e g ≡ true → before v f g ≡ true
before_trans v f e g of oe og h i = through (is v f.p) (is v f.q) (is v e.p) (is v e.q) (is v g.p) (is v g.q) (lt_z (pos 0) (slope f e)) (lt_z (pos 0) (slope e g)) (lt_z (pos 0) (slope f g))
    (not_both f of v) (not_both e oe v) (not_both g og v) (slope_trans f e g of oe og) h i

-- ---- turning clockwise from e, f is met strictly before g
abbrev pub majority : Bool → Bool → Bool → Bool
majority x y z = (x ∧∧ y ⊕ y ∧∧ z) ⊕ z ∧∧ x

abbrev pub between : Pt → Edge → Edge → Edge → Bool
between v e f g = majority (before v e f) (before v f g) (before v g e)

-- the parity just before an edge, and just after it, turning clockwise round v
abbrev pub side_before : (Edge → Bool) → List Edge → Pt → Edge → Bool
side_before a es v g = cond (is v g.p) (parity a es (left g)) (parity a es (right g))

abbrev pub side_after : (Edge → Bool) → List Edge → Pt → Edge → Bool
side_after a es v g = cond (is v g.p) (parity a es (right g)) (parity a es (left g))

by_cond : (t x y z : Bool) → (t ≡ true → x ≡ z) → (t ≡ false → y ≡ z) → cond t x y ≡ z
by_cond t x y z h i = grind arith

pub turned : (es : List Edge) → Edges es → (a : Edge → Bool) → Even a es → (v : Pt) (g : Edge) → In g es → ends_at v g ≡ true → side_before a es v g ≡ west a es v ⊕ par (λ f. a f ∧∧ before v f g) es
turned es h a ev v g i t = by_cond (is v g.p) (parity a es (left g)) (parity a es (right g)) (west a es v ⊕ par (λ f. a f ∧∧ before v f g) es)
    (λ k. turned_p es h a ev g i (slopes g) refl ∙ ap (λ (w : Pt). west a es w ⊕ par (λ f. a f ∧∧ before w f g) es) (sym (is_same v g.p k)))
    (λ k. turned_q es h a ev g i (slopes g) refl ∙ ap (λ (w : Pt). west a es w ⊕ par (λ f. a f ∧∧ before w f g) es) (sym (is_same v g.q (second_end (is v g.p) (is v g.q) t k))))

over_it : (t l r a : Bool) → r ≡ l ⊕ a → cond t r l ≡ cond t l r ⊕ a
over_it t l r a h = grind arith

pub across : (es : List Edge) → Edges es → (a : Edge → Bool) → Even a es → (v : Pt) (g : Edge) → In g es → side_after a es v g ≡ side_before a es v g ⊕ a g
across es h a ev v g i = over_it (is v g.p) (parity a es (left g)) (parity a es (right g)) (a g) (crossing es h a ev g i)

-- ---- from the far side of e to the near side of g
turn_case : (a n fe ef fg ge eg s : Bool) → s ≡ false → n ≡ true → (fe ⊕ ef) ⊕ s ≡ true → ge ⊕ eg ≡ true → (fe ≡ true → eg ≡ true → fg ≡ true) → (ef ≡ true → fg ≡ true → eg ≡ true)
    → (a ∧∧ fg ⊕ (a ∧∧ fe ⊕ s ∧∧ a)) ⊕ ge ∧∧ (a ∧∧ n) ≡ a ∧∧ (n ∧∧ ((ef ∧∧ fg ⊕ fg ∧∧ ge) ⊕ ge ∧∧ ef))
turn_case a n fe ef fg ge eg s h i j k t u = grind arith

away_case : (a n fe fg ge s m : Bool) → s ≡ false → n ≡ false → fe ≡ false → fg ≡ false → (a ∧∧ fg ⊕ (a ∧∧ fe ⊕ s ∧∧ a)) ⊕ ge ∧∧ (a ∧∧ n) ≡ a ∧∧ (n ∧∧ m)
away_case a n fe fg ge s m h i j k = grind arith

self_case : (a n ee eg ge s : Bool) → s ≡ true → n ≡ true → ee ≡ false → ge ⊕ eg ≡ true → (a ∧∧ eg ⊕ (a ∧∧ ee ⊕ s ∧∧ a)) ⊕ ge ∧∧ (a ∧∧ n) ≡ a ∧∧ (n ∧∧ ((ee ∧∧ eg ⊕ eg ∧∧ ge) ⊕ ge ∧∧ ee))
self_case a n ee eg ge s h i j k = grind arith

pub no_before : (pf qf pg qg s : Bool) → pf ⊕ qf ≡ false → (pf ≡ true → qf ≡ false) → (pf ∧∧ qg) ⊕ ((pf ∧∧ pg ⊕ qf ∧∧ qg) ∧∧ s) ≡ false
no_before pf qf pg qg s h i = grind arith

before_self : (p q s : Bool) → (p ≡ true → q ≡ false) → s ≡ false → (p ∧∧ q) ⊕ ((p ∧∧ p ⊕ q ∧∧ q) ∧∧ s) ≡ false
before_self p q s h i = grind arith

pub not_before_itself : (v : Pt) (e : Edge) → Ordered e → before v e e ≡ false
not_before_itself v e o = before_self (is v e.p) (is v e.q) (lt_z (pos 0) (slope e e)) (not_both e o v) (itself_flat e)

drop_false : (x s : Bool) → x ⊕ s ≡ true → s ≡ false → x ≡ true
drop_false x s h i = grind arith

pub pair : (es : List Edge) → Edges es → (v : Pt) (f g : Edge) → In f es → In g es → ends_at v f ≡ true → ends_at v g ≡ true → ¬ (f ≡ g) → before v f g ⊕ before v g f ≡ true
pair es h v f g i j a b n = drop_false (before v f g ⊕ before v g f) (same f g) (round_tour es h v f g i j a b (same f g) refl) (not_true (same f g) (λ s. n (same_is f g s)))

around_each : (es : List Edge) → Edges es → (a : Edge → Bool) (v : Pt) (e g f : Edge) → In e es → In g es → In f es → ends_at v e ≡ true → ends_at v g ≡ true → ¬ (e ≡ g) → (t : Bool) → ends_at v f ≡ t → (u : Bool) → same f e ≡ u
    → (a f ∧∧ before v f g ⊕ (a f ∧∧ before v f e ⊕ same f e ∧∧ a f)) ⊕ before v g e ∧∧ (a f ∧∧ ends_at v f) ≡ a f ∧∧ (ends_at v f ∧∧ between v e f g)
around_each es h a v e g f i j k x y n t s true m =
    subst (λ w. (a w ∧∧ before v w g ⊕ (a w ∧∧ before v w e ⊕ same w e ∧∧ a w)) ⊕ before v g e ∧∧ (a w ∧∧ ends_at v w) ≡ a w ∧∧ (ends_at v w ∧∧ between v e w g)) (sym (same_is f e m))
    (self_case (a e) (ends_at v e) (before v e e) (before v e g) (before v g e) (same e e) (same_refl e) x (not_before_itself v e (h.ordered e i)) (pair es h v g e j i y x (λ z. n (sym z))))
around_each es h a v e g f i j k x y n true s false m =
    turn_case (a f) (ends_at v f) (before v f e) (before v e f) (before v f g) (before v g e) (before v e g) (same f e) m s
    (round_tour es h v f e k i s x (same f e) refl) (pair es h v g e j i y x (λ z. n (sym z)))
    (before_trans v f e g (h.ordered f k) (h.ordered e i) (h.ordered g j)) (before_trans v e f g (h.ordered e i) (h.ordered f k) (h.ordered g j))
around_each es h a v e g f i j k x y n false s false m =
    away_case (a f) (ends_at v f) (before v f e) (before v f g) (before v g e) (same f e) (between v e f g) m s
    (no_before (is v f.p) (is v f.q) (is v e.p) (is v e.q) (lt_z (pos 0) (slope f e)) s (not_both f (h.ordered f k) v))
    (no_before (is v f.p) (is v f.q) (is v g.p) (is v g.q) (lt_z (pos 0) (slope f g)) s (not_both f (h.ordered f k) v))

collect : (w x y z r : Bool) → ((x ⊕ (y ⊕ z)) ⊕ false) ≡ r → w ⊕ x ≡ ((w ⊕ y) ⊕ z) ⊕ r
collect w x y z r h = grind arith

pub around : (es : List Edge) → Edges es → (a : Edge → Bool) → Even a es → (v : Pt) (e g : Edge) → In e es → In g es → ends_at v e ≡ true → ends_at v g ≡ true → ¬ (e ≡ g)
    → side_before a es v g ≡ side_after a es v e ⊕ par (λ f. a f ∧∧ (ends_at v f ∧∧ between v e f g)) es
around es h a ev v e g i j x y n =
    turned es h a ev v g j y
    ∙ collect (west a es v) (par (λ f. a f ∧∧ before v f g) es) (par (λ f. a f ∧∧ before v f e) es) (a e) (par (λ f. a f ∧∧ (ends_at v f ∧∧ between v e f g)) es) total
    ∙ ap (λ (t : Bool). (t ⊕ a e) ⊕ par (λ f. a f ∧∧ (ends_at v f ∧∧ between v e f g)) es) (sym (turned es h a ev v e i x))
    ∙ ap (λ (t : Bool). t ⊕ par (λ f. a f ∧∧ (ends_at v f ∧∧ between v e f g)) es) (sym (across es h a ev v e i))
  where
    all : before v g e ∧∧ par (λ f. a f ∧∧ ends_at v f) es ≡ false
    all = ap (λ (t : Bool). before v g e ∧∧ t) (ev v) ∙ and_false (before v g e)

    total : (par (λ f. a f ∧∧ before v f g) es ⊕ (par (λ f. a f ∧∧ before v f e) es ⊕ a e)) ⊕ false ≡ par (λ f. a f ∧∧ (ends_at v f ∧∧ between v e f g)) es
    total = ap (λ (t : Bool). (par (λ f. a f ∧∧ before v f g) es ⊕ (par (λ f. a f ∧∧ before v f e) es ⊕ t)) ⊕ false) (sym (once es h.distinct a e i))
        ∙ ap (λ (t : Bool). (par (λ f. a f ∧∧ before v f g) es ⊕ t) ⊕ false) (par_xor (λ f. a f ∧∧ before v f e) (λ f. same f e ∧∧ a f) es)
        ∙ ap (λ (t : Bool). t ⊕ false) (par_xor (λ f. a f ∧∧ before v f g) (λ f. a f ∧∧ before v f e ⊕ same f e ∧∧ a f) es)
        ∙ ap (λ (t : Bool). par (λ f. a f ∧∧ before v f g ⊕ (a f ∧∧ before v f e ⊕ same f e ∧∧ a f)) es ⊕ t) (sym all ∙ par_and (before v g e) (λ f. a f ∧∧ ends_at v f) es)
        ∙ par_xor (λ f. a f ∧∧ before v f g ⊕ (a f ∧∧ before v f e ⊕ same f e ∧∧ a f)) (λ f. before v g e ∧∧ (a f ∧∧ ends_at v f)) es
        ∙ par_cong (λ f. (a f ∧∧ before v f g ⊕ (a f ∧∧ before v f e ⊕ same f e ∧∧ a f)) ⊕ before v g e ∧∧ (a f ∧∧ ends_at v f)) (λ f. a f ∧∧ (ends_at v f ∧∧ between v e f g)) es
        (λ f k. around_each es h a v e g f i j k x y n (ends_at v f) refl (same f e) refl)

-- ---- the next edge
-- no chosen edge at v is met strictly between e and g
abbrev pub NoneBetween : (Edge → Bool) → List Edge → Pt → Edge → Edge → Type 0
NoneBetween a es v e g = (f : Edge) → In f es → a f ≡ true → ends_at v f ≡ true → between v e f g ≡ false

silent : (a n b : Bool) → (a ≡ true → n ≡ true → b ≡ false) → a ∧∧ (n ∧∧ b) ≡ false
silent a n b h = grind arith

plain : (x y s : Bool) → y ≡ true → s ≡ false → x ≡ y ⊕ s → x ≡ true
plain x y s h i j = grind arith

flips : (x y a : Bool) → y ≡ true → a ≡ true → x ≡ y ⊕ a → x ≡ false
flips x y a h i j = grind arith

-- e comes to v with the inside after it; g is the first met: it leaves v, with the inside before it
pub leaves : (es : List Edge) → Edges es → (r : Edge → Bool) → Even r es → (v : Pt) (e g : Edge) → In e es → In g es → ends_at v e ≡ true → ends_at v g ≡ true → ¬ (e ≡ g)
    → r g ≡ true → side_after r es v e ≡ true → NoneBetween r es v e g → (side_before r es v g ≡ true) × (side_after r es v g ≡ false)
leaves es h r ev v e g i j x y n rg s none = (near, flips (side_after r es v g) (side_before r es v g) (r g) near rg (across es h r ev v g j))
  where
    near : side_before r es v g ≡ true
    near = plain (side_before r es v g) (side_after r es v e) (par (λ f. r f ∧∧ (ends_at v f ∧∧ between v e f g)) es) s
        (par_cong (λ f. r f ∧∧ (ends_at v f ∧∧ between v e f g)) (λ f. false) es (λ f k. silent (r f) (ends_at v f) (between v e f g) (none f k)) ∙ par_none es)
        (around es h r ev v e g i j x y n)

-- there is another chosen edge at v
pub another : (es : List Edge) → Edges es → (r : Edge → Bool) → Even r es → (v : Pt) (e : Edge) → In e es → ends_at v e ≡ true → r e ≡ true → ¬ ((f : Edge) → In f es → ends_at v f ≡ true → r f ≡ true → f ≡ e)
another es h r ev v e i x re only = false≢true (sym (ev v)
    ∙ par_cong (λ f. r f ∧∧ ends_at v f) (λ f. same f e ∧∧ r f) es (λ f j. alike (r f) (ends_at v f) (same f e)
    (λ s t. subst (λ w. same w e ≡ true) (sym (only f j t s)) (same_refl e)) (λ s. subst (λ w. ends_at v w ≡ true) (sym (same_is f e s)) x))
    ∙ once es h.distinct r e i ∙ re)
  where
    alike : (r n s : Bool) → (r ≡ true → n ≡ true → s ≡ true) → (s ≡ true → n ≡ true) → r ∧∧ n ≡ s ∧∧ r
    alike r n s h k = grind arith
