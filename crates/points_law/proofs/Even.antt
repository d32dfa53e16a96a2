-- Even degrees at every point, counted over a set of points; each element of a list of distinct ones is there once.
use mathlib.Core.Path.{◌≡◌, refl, sym, ◌∙◌, ap, subst}
use mathlib.Core.Bool.{Bool, true, false, not}
use mathlib.Core.List.{List, [], ◌∷◌}
use mathlib.Core.Logic.{inl, inr}
use native.Mathlib.Omega.{arith}
use lib.IntN.{ℤ}
use lib.Signed.{le_z}
use borrow.Author.Differences.{ints}
use Rattle.geom.specs.declared.point.Pt.{Pt}
use Rattle.geom.specs.declared.edge.Edge.{Edge}
use Rattle.geom.proofs.Lists.{In, Distinct}
use Rattle.geom.proofs.Edges.{edge_path}
use Rattle.points_law.proofs.Choices.{◌⊕◌, ◌∧∧◌, par, eq_z, is, Even}
use Rattle.points_law.proofs.Sums.{par_cong, par_same, par_xor, par_and, par_none, and_false}

pub and_left : (a b : Bool) → a ∧∧ b ≡ true → a ≡ true
and_left a b h = grind arith

pub and_right : (a b : Bool) → a ∧∧ b ≡ true → b ≡ true
and_right a b h = grind arith

pub eq_z_same : (a b : ℤ) → eq_z a b ≡ true → a ≡ b
eq_z_same a b h = both a b (and_left (le_z a b) (le_z b a) h) (and_right (le_z a b) (le_z b a) h)
  where
    both : (a b : ℤ) → le_z a b ≡ true → le_z b a ≡ true → a ≡ b
    both a b h k = omega (arith, ints)

le_z_refl : (a : ℤ) → le_z a a ≡ true
le_z_refl a = sym (so a)
  where
    so : (a : ℤ) → true ≡ le_z a a
    so a = omega (arith, ints)

pub eq_z_refl : (a : ℤ) → eq_z a a ≡ true
eq_z_refl a = ap (λ (t : Bool). t ∧∧ le_z a a) (le_z_refl a) ∙ le_z_refl a

pub is_same : (u v : Pt) → is u v ≡ true → u ≡ v
is_same u v h = λ i. record { x = eq_z_same u.x v.x (and_left (eq_z u.x v.x) (eq_z u.y v.y) h) i; y = eq_z_same u.y v.y (and_right (eq_z u.x v.x) (eq_z u.y v.y) h) i }

pub is_refl : (u : Pt) → is u u ≡ true
is_refl u = ap (λ (t : Bool). t ∧∧ eq_z u.y u.y) (eq_z_refl u.x) ∙ eq_z_refl u.y

abbrev pub same : Edge → Edge → Bool
same e f = is e.p f.p ∧∧ is e.q f.q

pub same_is : (e f : Edge) → same e f ≡ true → e ≡ f
same_is e f h = edge_path e f (is_same e.p f.p (and_left (is e.p f.p) (is e.q f.q) h)) (is_same e.q f.q (and_right (is e.p f.p) (is e.q f.q) h))

pub same_refl : (e : Edge) → same e e ≡ true
same_refl e = ap (λ (t : Bool). t ∧∧ is e.q e.q) (is_refl e.p) ∙ is_refl e.q

-- ---- once
pub by_test : (t : Bool) (P : Type 0) → (t ≡ true → P) → (t ≡ false → P) → P
by_test true P f g = f refl
by_test false P f g = g refl

pub clash : {P : Type 0} (t : Bool) → t ≡ false → t ≡ true → P
clash true h k = absurd (let e : true ≡ false = h in cc)
clash false h k = absurd (let e : false ≡ true = k in cc)

pub both_ways : (a b : Bool) → (a ≡ true → b ≡ true) → (b ≡ true → a ≡ true) → a ≡ b
both_ways true b f g = sym (f refl)
both_ways false true f g = g refl
both_ways false false f g = refl

pub not_true : (t : Bool) → ¬ (t ≡ true) → t ≡ false
not_true true h = absurd (h refl)
not_true false h = refl

if_true : (t b r : Bool) → t ≡ true → r ≡ false → t ∧∧ b ⊕ r ≡ b
if_true t b r h k = grind arith

if_false : (t b r c : Bool) → t ≡ false → r ≡ c → t ∧∧ b ⊕ r ≡ c
if_false t b r c h k = grind arith

and_of_false : (t b : Bool) → t ≡ false → t ∧∧ b ≡ false
and_of_false t b h = grind arith

nowhere : (c : Edge → Bool) (x : Edge) (es : List Edge) → ¬ (In x es) → par (λ y. same y x ∧∧ c y) es ≡ false
nowhere c x es n = par_cong (λ y. same y x ∧∧ c y) (λ y. false) es (λ y i. and_of_false (same y x) (c y) (not_true (same y x) (λ h. n (subst (λ z. In z es) (same_is y x h) i)))) ∙ par_none es

pub once : (es : List Edge) → Distinct es → (c : Edge → Bool) (x : Edge) → In x es → par (λ y. same y x ∧∧ c y) es ≡ c x
once [] d c x i = absurd i
once (y ∷ ys) d c x (inl e) = if_true (same y x) (c y) (par (λ y. same y x ∧∧ c y) ys) (subst (λ z. same y z ≡ true) e (same_refl y)) (nowhere c x ys (subst (λ z. ¬ (In z ys)) e d.0)) ∙ ap c e
once (y ∷ ys) d c x (inr i) = if_false (same y x) (c y) (par (λ y. same y x ∧∧ c y) ys) (c x) (not_true (same y x) (λ h. d.0 (subst (λ z. In z ys) (sym (same_is y x h)) i))) (once ys d.1 c x i)

-- ---- even degrees
abbrev missing : Pt → List Pt → Bool
missing v [] = true
missing v (w ∷ ws) = not (is w v) ∧∧ missing v ws

abbrev ends : List Edge → List Pt
ends [] = []
ends (e ∷ es) = e.p ∷ e.q ∷ ends es

abbrev Covered : (Pt → Bool) → List Edge → List Pt → Type 0
Covered U es ws = (f : Edge) → In f es → (U f.p ∧∧ missing f.p ws ≡ false) × (U f.q ∧∧ missing f.q ws ≡ false)

apart_case : (U : Pt → Bool) (w v : Pt) (t : Bool) → is w v ≡ t → U v ≡ (U w ∧∧ t) ⊕ (U v ∧∧ not t)
apart_case U w v true h = ap U (sym (is_same w v h)) ∙ taken (U w) (U v)
  where
    taken : (a b : Bool) → a ≡ (a ∧∧ true) ⊕ (b ∧∧ false)
    taken a b = grind arith
apart_case U w v false h = left_out (U w) (U v)
  where
    left_out : (a b : Bool) → b ≡ (a ∧∧ false) ⊕ (b ∧∧ true)
    left_out a b = grind arith

pieces : (a u r s p q u' r' : Bool) → p ≡ (u ∧∧ r) ⊕ u' → q ≡ (u ∧∧ s) ⊕ r' → a ∧∧ (p ⊕ q) ≡ (u ∧∧ (a ∧∧ (r ⊕ s))) ⊕ (a ∧∧ (u' ⊕ r'))
pieces a u r s p q u' r' h k = grind arith

no_point : (a u v : Bool) → u ∧∧ true ≡ false → v ∧∧ true ≡ false → a ∧∧ (u ⊕ v) ≡ false
no_point a u v h k = grind arith

regroup : (u t m : Bool) → u ∧∧ (not t ∧∧ m) ≡ false → (u ∧∧ not t) ∧∧ m ≡ false
regroup u t m h = grind arith

even_over : (a : Edge → Bool) (es : List Edge) → Even a es → (ws : List Pt) (U : Pt → Bool) → Covered U es ws → par (λ f. a f ∧∧ (U f.p ⊕ U f.q)) es ≡ false
even_over a es ev [] U c = par_cong (λ f. a f ∧∧ (U f.p ⊕ U f.q)) (λ f. false) es (λ f i. no_point (a f) (U f.p) (U f.q) (c f i).0 (c f i).1) ∙ par_none es
even_over a es ev (w ∷ ws) U c =
    par_same (λ f. a f ∧∧ (U f.p ⊕ U f.q)) (λ f. (U w ∧∧ (a f ∧∧ (is w f.p ⊕ is w f.q))) ⊕ (a f ∧∧ (U' f.p ⊕ U' f.q))) es
    (λ f. pieces (a f) (U w) (is w f.p) (is w f.q) (U f.p) (U f.q) (U' f.p) (U' f.q) (apart_case U w f.p (is w f.p) refl) (apart_case U w f.q (is w f.q) refl))
    ∙ sym (par_xor (λ f. U w ∧∧ (a f ∧∧ (is w f.p ⊕ is w f.q))) (λ f. a f ∧∧ (U' f.p ⊕ U' f.q)) es)
    ∙ ap (λ (t : Bool). t ⊕ par (λ f. a f ∧∧ (U' f.p ⊕ U' f.q)) es) (sym (par_and (U w) (λ f. a f ∧∧ (is w f.p ⊕ is w f.q)) es) ∙ ap (λ (t : Bool). U w ∧∧ t) (ev w) ∙ and_false (U w))
    ∙ even_over a es ev ws U' (λ f i. (regroup (U f.p) (is w f.p) (missing f.p ws) (c f i).0, regroup (U f.q) (is w f.q) (missing f.q ws) (c f i).1))
  where
    U' : Pt → Bool
    U' v = U v ∧∧ not (is w v)

found : (v : Pt) (ws : List Pt) → missing v (v ∷ ws) ≡ false
found v ws = ap (λ (t : Bool). not t ∧∧ missing v ws) (is_refl v)

further : (v w : Pt) (ws : List Pt) → missing v ws ≡ false → missing v (w ∷ ws) ≡ false
further v w ws h = ap (λ (t : Bool). not (is w v) ∧∧ t) h ∙ and_false (not (is w v))

all_ends : (es : List Edge) (f : Edge) → In f es → (missing f.p (ends es) ≡ false) × (missing f.q (ends es) ≡ false)
all_ends [] f i = absurd i
all_ends (e ∷ es) f (inl h) = subst (λ z. (missing z.p (ends (e ∷ es)) ≡ false) × (missing z.q (ends (e ∷ es)) ≡ false)) h (found e.p (e.q ∷ ends es), further e.q e.p (e.q ∷ ends es) (found e.q (ends es)))
all_ends (e ∷ es) f (inr i) = (further f.p e.p (e.q ∷ ends es) (further f.p e.q (ends es) (all_ends es f i).0), further f.q e.p (e.q ∷ ends es) (further f.q e.q (ends es) (all_ends es f i).1))

pub even_sum : (a : Edge → Bool) (es : List Edge) → Even a es → (U : Pt → Bool) → par (λ f. a f ∧∧ (U f.p ⊕ U f.q)) es ≡ false
even_sum a es ev U = even_over a es ev (ends es) U (λ f i. (ap (λ (t : Bool). U f.p ∧∧ t) (all_ends es f i).0 ∙ and_false (U f.p), ap (λ (t : Bool). U f.q ∧∧ t) (all_ends es f i).1 ∙ and_false (U f.q)))
