-- The parity of a point over the result edges is the operation of its parities.
use mathlib.Core.Path.{◌≡◌, refl, sym, ◌∙◌, ap, subst}
use mathlib.Core.Bool.{Bool, true, false, false≢true}
use mathlib.Core.List.{List}
use native.Mathlib.Omega.{arith}
use lib.IntN.{ℤ}
use Rattle.geom.specs.declared.edge.Edge.{Edge}
use Rattle.geom.specs.Pixel.{Point}
use Rattle.geom.proofs.Lists.{In}
use Rattle.points_law.proofs.Choices.{◌⊕◌, ◌∧∧◌, MeetAtEnds, Noded, Even, covers, above, counted, parity, left, right, in_result}
use Rattle.points_law.proofs.ResultOfChoices.{Edges, ResultParity}
use Rattle.points_law.proofs.Sums.{par_cong, over, jump, walk}
use Rattle.points_law.proofs.Even.{and_left, and_right, same, same_is, same_refl, once}
use Rattle.points_law.proofs.Column.{cv, ab, cv_run, one_above, not_above_itself, among, anywhere, differ}
use Rattle.points_law.proofs.Heights.{InColumn, column, covers_is, upward}
use Rattle.points_law.proofs.Side.{at_left, at_right, left_column, right_column}
use Rattle.points_law.proofs.Truth.{both_of, and_none, only_first}

-- ---- an edge above z: its place in the column of z decides it
jump_at : (es : List Edge) → Edges es → (op : Bool → Bool → Bool) (a b : Edge → Bool) → Even a es → Even b es → (e : Edge) → In e es → (k : ℤ) → cv e k ≡ true
    → in_result op a b es e ≡ jump op (among a es e k) (among b es e k) (a e) (b e)
jump_at es h op a b ea eb e l k i =
    ap (λ (t : Bool). op t (parity b es (left e)) ⊕ op (parity a es (right e)) (parity b es (right e))) (on_left a ea)
    ∙ ap (λ (t : Bool). op (among a es e k) t ⊕ op (parity a es (right e)) (parity b es (right e))) (on_left b eb)
    ∙ ap (λ (t : Bool). op (among a es e k) (among b es e k) ⊕ op t (parity b es (right e))) (on_right a ea)
    ∙ ap (λ (t : Bool). op (among a es e k) (among b es e k) ⊕ op (among a es e k ⊕ a e) t) (on_right b eb)
  where
    lc : cv e (column (left e)).0 ≡ true
    lc = left_column e (column (left e)).0 (h.small e l) (cv_run e k i) (column (left e)).1

    rc : cv e (column (right e)).0 ≡ true
    rc = right_column e (column (right e)).0 (h.small e l) (cv_run e k i) (column (right e)).1

    on_left : (c : Edge → Bool) → Even c es → parity c es (left e) ≡ among c es e k
    on_left c ev = at_left es h.noded h.small c e l (column (left e)).0 (column (left e)).1 lc ∙ anywhere es h.noded h.ordered c ev e l (column (left e)).0 k lc i

    on_right : (c : Edge → Bool) → Even c es → parity c es (right e) ≡ among c es e k ⊕ c e
    on_right c ev = at_right es h.noded h.small h.distinct c e l (column (right e)).0 (column (right e)).1 rc
        ∙ ap (λ (t : Bool). t ⊕ c e) (anywhere es h.noded h.ordered c ev e l (column (right e)).0 k rc i)

-- the chosen edges above e are among those above z
inside : (a c u v : Bool) → (c ≡ true → u ≡ true → v ≡ true) → a ∧∧ (c ∧∧ u) ≡ u ∧∧ (a ∧∧ (c ∧∧ v))
inside a c u v h = grind arith

up_each : (e f : Edge) (z : Point) (k : ℤ) → (¬ (e ≡ f) → MeetAtEnds e f) → InColumn z k → cv e k ≡ true → above e z ≡ true → (t : Bool) → same e f ≡ t → cv f k ≡ true → ab f e k ≡ true → above f z ≡ true
up_each e f z k m c i v true s j u = absurd (false≢true (sym (not_above_itself e k) ∙ subst (λ y. ab y e k ≡ true) (sym (same_is e f s)) u))
up_each e f z k m c i v false s j u = upward e f z k c (m (differ e f s)) i j u v

above_z : (es : List Edge) → Noded es → (z : Point) (k : ℤ) → InColumn z k → (a : Edge → Bool) (e : Edge) → In e es → cv e k ≡ true → above e z ≡ true
    → among a es e k ≡ over (λ f g. ab f g k) (λ f. a f ∧∧ counted f z) es e
above_z es n z k c a e l i v = par_cong (λ f. a f ∧∧ (cv f k ∧∧ ab f e k)) (λ f. ab f e k ∧∧ (a f ∧∧ counted f z)) es
    (λ f w. inside (a f) (cv f k) (ab f e k) (above f z) (λ j u. up_each e f z k (n e f l w) c i v (same e f) refl j u)
    ∙ ap (λ (t : Bool). ab f e k ∧∧ (a f ∧∧ (t ∧∧ above f z))) (sym (covers_is z k c f)))

stay : (x : Bool) → x ⊕ false ≡ x
stay x = grind arith

pub keep : (a t : Bool) → t ≡ true → a ∧∧ t ≡ a
keep a t h = grind arith

pub no_jump : (op : Bool → Bool → Bool) (x y a b : Bool) → a ≡ false → b ≡ false → jump op x y a b ≡ false
no_jump op x y a b h i =
    ap (λ (t : Bool). op x y ⊕ op (x ⊕ t) (y ⊕ b)) h ∙ ap (λ (t : Bool). op x y ⊕ op (x ⊕ false) (y ⊕ t)) i
    ∙ ap (λ (t : Bool). op x y ⊕ op t (y ⊕ false)) (stay x) ∙ ap (λ (t : Bool). op x y ⊕ op x t) (stay y) ∙ twice (op x y)
  where
    twice : (t : Bool) → t ⊕ t ≡ false
    twice t = grind arith

pub same_jump : (op : Bool → Bool → Bool) (x y a b x' y' a' b' : Bool) → x ≡ x' → y ≡ y' → a ≡ a' → b ≡ b' → jump op x y a b ≡ jump op x' y' a' b'
same_jump op x y a b x' y' a' b' h i j k = ap (λ (t : Bool). jump op t y a b) h ∙ ap (λ (t : Bool). jump op x' t a b) i ∙ ap (λ (t : Bool). jump op x' y' t b) j ∙ ap (λ (t : Bool). jump op x' y' a' t) k

each_jump : (es : List Edge) → Edges es → (op : Bool → Bool → Bool) (a b : Edge → Bool) → Even a es → Even b es → (z : Point) (k : ℤ) → InColumn z k → (e : Edge) → In e es → (t : Bool) → counted e z ≡ t
    → in_result op a b es e ∧∧ counted e z ≡ jump op (over (λ f g. ab f g k) (λ f. a f ∧∧ counted f z) es e) (over (λ f g. ab f g k) (λ f. b f ∧∧ counted f z) es e) (a e ∧∧ counted e z) (b e ∧∧ counted e z)
each_jump es h op a b ea eb z k c e l true s =
    keep (in_result op a b es e) (counted e z) s
    ∙ jump_at es h op a b ea eb e l k i
    ∙ same_jump op (among a es e k) (among b es e k) (a e) (b e)
    (over (λ f g. ab f g k) (λ f. a f ∧∧ counted f z) es e) (over (λ f g. ab f g k) (λ f. b f ∧∧ counted f z) es e) (a e ∧∧ counted e z) (b e ∧∧ counted e z)
    (above_z es h.noded z k c a e l i v) (above_z es h.noded z k c b e l i v) (sym (keep (a e) (counted e z) s)) (sym (keep (b e) (counted e z) s))
  where
    i : cv e k ≡ true
    i = sym (covers_is z k c e) ∙ (both_of (covers e z) (above e z) s).0

    v : above e z ≡ true
    v = (both_of (covers e z) (above e z) s).1
each_jump es h op a b ea eb z k c e l false s =
    and_none (in_result op a b es e) (counted e z) s
    ∙ sym (no_jump op (over (λ f g. ab f g k) (λ f. a f ∧∧ counted f z) es e) (over (λ f g. ab f g k) (λ f. b f ∧∧ counted f z) es e) (a e ∧∧ counted e z) (b e ∧∧ counted e z)
    (and_none (a e) (counted e z) s) (and_none (b e) (counted e z) s))

-- of two counted edges one is above the other
tour_same : (x y : Edge) (k : ℤ) → same y x ≡ true → (ab y x k ⊕ ab x y k) ⊕ same y x ≡ true
tour_same x y k s = subst (λ w. (ab w x k ⊕ ab x w k) ⊕ same w x ≡ true) (sym (same_is y x s)) (three (ab x x k) (same x x) (same_refl x))
  where
    three : (t s : Bool) → s ≡ true → (t ⊕ t) ⊕ s ≡ true
    three t s h = grind arith

tour : (es : List Edge) → Noded es → (z : Point) (k : ℤ) → InColumn z k → (a b : Edge → Bool) (x y : Edge) → In x es → In y es → a y ∧∧ counted y z ≡ true → b x ∧∧ counted x z ≡ true → (t : Bool) → same y x ≡ t
    → (ab y x k ⊕ ab x y k) ⊕ same y x ≡ true
tour es n z k c a b x y i j h g true s = tour_same x y k s
tour es n z k c a b x y i j h g false s = only_first (ab y x k ⊕ ab x y k) (same y x)
    (one_above x y k (n x y i j (λ e. differ y x s (sym e)))
    (sym (covers_is z k c x) ∙ and_left (covers x z) (above x z) (and_right (b x) (counted x z) g))
    (sym (covers_is z k c y) ∙ and_left (covers y z) (above y z) (and_right (a y) (counted y z) h)))
    s

pub result_parity : ResultParity
result_parity es h op o a b ea eb z =
    par_cong (λ e. in_result op a b es e ∧∧ counted e z) (λ e. jump op (over up a' es e) (over up b' es e) (a' e) (b' e)) es
    (λ e l. each_jump es h op a b ea eb z (column z).0 (column z).1 e l (counted e z) refl)
    ∙ walk op o up same a' b' es (once es h.distinct)
    (λ x y i j g q. tour es h.noded z (column z).0 (column z).1 a b x y i j g q (same y x) refl)
  where
    up : Edge → Edge → Bool
    up f g = ab f g (column z).0

    a' : Edge → Bool
    a' f = a f ∧∧ counted f z

    b' : Edge → Bool
    b' f = b f ∧∧ counted f z
