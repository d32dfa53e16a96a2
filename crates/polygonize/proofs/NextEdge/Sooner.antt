-- Turning clockwise: the test and the relation, and that at most one edge is the next.
use Rattle.std.proofs.Common.{◌≡◌, ◌≢◌, ◌⊎◌, ℕ, ◌<◌, ◌≤◌, Bool, true, false, cond, not, List, length, refl, sym, ◌∙◌, ap, subst, inl, inr, arith}
use Rattle.std.specs.Prelude.{ℤ, pos, ◌<ℤ◌, AllPairs, Contains, ◌&&◌, ◌||◌}
use Rattle.std.specs.Cmp.{IsStrictWeakOrder}
use Rattle.std.specs.Prelude.{◌==◌, nat_lt}
use Rattle.std.proofs.lemmas.Bool.Decides.{nat_tests}
use lib.Signed.{lt_z}
use borrow.Author.Differences.{ints}
use Rattle.std.proofs.lemmas.Bool.{cases_eq, cases_lt, false≢true}
use Rattle.geom.specs.declared.point.Pt.{Pt}
use Rattle.geom.specs.declared.directed.DirectedEdge.{DirectedEdge}
use Rattle.geom.specs.Order.{IsBefore}
use Rattle.geom.proofs.Orders.{before_trans}
use Rattle.geom.specs.Determinant.{side}
use Rattle.geom.specs.Directed.{from_to, IsDirectedBefore, AreDirected}
use Rattle.geom.specs.Rings.{IsSooner, IsMetBefore, IsNext}
use Rattle.polygonize.specs.declared.leaving.LeavingEdge.{LeavingEdge}
use Rattle.polygonize.specs.Clockwise.{less, half, met_before, sooner}
use Rattle.polygonize.specs.Leaving.{leaves_sooner}
use Rattle.polygonize.specs.Next.{nothing, edge_at}
use Rattle.polygonize.proofs.NextEdge.Turns.{Half, half_of, less_is, is_less, neither_less, one_way, chain, sooner_true}
use Rattle.polygonize.proofs.NextEdge.Turns.Half.{right, left, itself}
use Rattle.polygonize.proofs.CycleRings.{less_not, less_apart}

-- ---- tests and facts
pub by_test : {P : Type 0} (t : Bool) → (t ≡ true → P) → (t ≡ false → P) → P
by_test true f g = f refl
by_test false f g = g refl

pub not_less : (p q : Pt) → ¬ (IsBefore p q) → less p q ≡ false
not_less p q n = by_test (less p q) (λ h. absurd (n (less_is p q h))) (λ h. h)

pub same_or_not : (p q : Pt) → (p ≡ q) ⊎ (p ≢ q)
same_or_not p q = by_test (less p q) (λ h. inr (less_apart p q (less_is p q h))) (λ h. by_test (less q p) (λ k. inr (λ e. less_apart q p (less_is q p k) (sym e))) (λ k. inl (neither_less p q h k)))

half_zero : (v a : Pt) → IsBefore v a → half v a ≡ 0
half_zero v a h = ap (λ t. cond t 0 (cond (less a v) 1 2)) (is_less v a h)

half_one : (v a : Pt) → IsBefore a v → half v a ≡ 1
half_one v a h = ap (λ t. cond t 0 (cond (less a v) 1 2)) (not_less v a (less_not a v h)) ∙ ap (λ t. cond t 1 2) (is_less a v h)

-- ---- the test and the relation

order_yes : (m n : ℕ) (x : ℤ) → m ≡ 0 → n ≡ 1 → nat_lt m n || ((m == n) && lt_z x (pos 0)) ≡ true
order_yes m n x h k = ahead (nat_lt m n) ((m == n) && lt_z x (pos 0)) (less_yes m n h k)
  where
    less_yes : (m n : ℕ) → m ≡ 0 → n ≡ 1 → nat_lt m n ≡ true
    less_yes m n h k = grind (arith, nat_tests)

    ahead : (a b : Bool) → a ≡ true → a || b ≡ true
    ahead a b h = grind arith

level_yes : (m n : ℕ) (x : ℤ) → m ≡ n → x <ℤ pos 0 → nat_lt m n || ((m == n) && lt_z x (pos 0)) ≡ true
level_yes m n x h k = behind (nat_lt m n) (m == n) (lt_z x (pos 0)) (equal m n h) (below x k)
  where
    equal : (m n : ℕ) → m ≡ n → (m == n) ≡ true
    equal m n h = grind (arith, nat_tests)

    below : (x : ℤ) → x <ℤ pos 0 → lt_z x (pos 0) ≡ true
    below x h = grind (arith, ints)

    behind : (a b c : Bool) → b ≡ true → c ≡ true → a || (b && c) ≡ true
    behind a b c h k = grind arith

pub is_sooner : (v a b : Pt) → IsSooner v a b → sooner v a b ≡ true
is_sooner v a b (inl h) = order_yes (half v a) (half v b) (side v a b) (half_zero v a h.0) (half_one v b h.1)
is_sooner v a b (inr (inl h, c)) = level_yes (half v a) (half v b) (side v a b) (half_zero v a h.0 ∙ sym (half_zero v b h.1)) c
is_sooner v a b (inr (inr h, c)) = level_yes (half v a) (half v b) (side v a b) (half_one v a h.0 ∙ sym (half_one v b h.1)) c

-- of neighbours, none of which is v
pub sooner_is : (v a b : Pt) → v ≢ a → v ≢ b → sooner v a b ≡ true → IsSooner v a b
sooner_is v a b n o h = by_halves (half_of v a) (half_of v b) (sooner_true (half v a) (half v b) (side v a b) h)
  where
    none : (k l m n : ℕ) → k ≡ m → l ≡ n → n ≤ m → k < l → ⊥
    none k l m n e f g h = omega arith

    unlike : (k l : ℕ) → k ≡ 1 → l ≡ 0 → k ≡ l → ⊥
    unlike k l e f g = omega arith

    by_halves : Half v a → Half v b → (half v a < half v b) ⊎ ((half v a ≡ half v b) × (side v a b <ℤ pos 0)) → IsSooner v a b
    by_halves (itself e g) k m = absurd (n e)
    by_halves (right p e) (itself f g) m = absurd (o f)
    by_halves (left p e) (itself f g) m = absurd (o f)
    by_halves (right p e) (left q f) m = inl (p, q)
    by_halves (right p e) (right q f) (inl m) = absurd (none (half v a) (half v b) 0 0 e f (omega arith) m)
    by_halves (right p e) (right q f) (inr m) = inr (inl (p, q), m.1)
    by_halves (left p e) (left q f) (inl m) = absurd (none (half v a) (half v b) 1 1 e f (omega arith) m)
    by_halves (left p e) (left q f) (inr m) = inr (inr (p, q), m.1)
    by_halves (left p e) (right q f) (inl m) = absurd (none (half v a) (half v b) 1 0 e f (omega arith) m)
    by_halves (left p e) (right q f) (inr m) = absurd (unlike (half v a) (half v b) e f m.0)

pub sooner_not : (v a b : Pt) → IsSooner v a b → ¬ (IsSooner v b a)
sooner_not v a b h k = false≢true (sym (one_way v a b (is_sooner v a b h)) ∙ is_sooner v b a k)

pub is_met : (v u a b : Pt) → IsMetBefore v u a b → met_before v u a b ≡ true
is_met v u a b m = by_two (sooner v u a) (sooner v a b) (sooner v b u) (told m)
  where
    told : IsMetBefore v u a b → ((sooner v u a ≡ true) × (sooner v a b ≡ true)) ⊎ ((sooner v a b ≡ true) × (sooner v b u ≡ true)) ⊎ ((sooner v b u ≡ true) × (sooner v u a ≡ true))
    told (inl h) = inl (is_sooner v u a h.0, is_sooner v a b h.1)
    told (inr (inl h)) = inr (inl (is_sooner v a b h.0, is_sooner v b u h.1))
    told (inr (inr h)) = inr (inr (is_sooner v b u h.0, is_sooner v u a h.1))

    by_two : (x y z : Bool) → ((x ≡ true) × (y ≡ true)) ⊎ ((y ≡ true) × (z ≡ true)) ⊎ ((z ≡ true) × (x ≡ true)) → (x && y) || ((y && z) || (z && x)) ≡ true
    by_two x y z (inl h) = (let p = h.0 in let q = h.1 in grind arith)
    by_two x y z (inr (inl h)) = (let p = h.0 in let q = h.1 in grind arith)
    by_two x y z (inr (inr h)) = (let p = h.0 in let q = h.1 in grind arith)

pub is_not_met : (v u a b : Pt) → IsMetBefore v u b a → met_before v u a b ≡ false
is_not_met v u a b m = by_two (sooner v u a) (sooner v a b) (sooner v b u) (told m)
  where
    not : (p q : Pt) → IsSooner v p q → sooner v q p ≡ false
    not p q h = one_way v p q (is_sooner v p q h)

    told : IsMetBefore v u b a → ((sooner v u a ≡ false) × (sooner v a b ≡ false)) ⊎ ((sooner v a b ≡ false) × (sooner v b u ≡ false)) ⊎ ((sooner v b u ≡ false) × (sooner v u a ≡ false))
    told (inl h) = inr (inl (not b a h.1, not u b h.0))
    told (inr (inl h)) = inl (not a u h.1, not b a h.0)
    told (inr (inr h)) = inr (inr (not u b h.1, not a u h.0))

    by_two : (x y z : Bool) → ((x ≡ false) × (y ≡ false)) ⊎ ((y ≡ false) × (z ≡ false)) ⊎ ((z ≡ false) × (x ≡ false)) → (x && y) || ((y && z) || (z && x)) ≡ false
    by_two x y z (inl h) = (let p = h.0 in let q = h.1 in grind arith)
    by_two x y z (inr (inl h)) = (let p = h.0 in let q = h.1 in grind arith)
    by_two x y z (inr (inr h)) = (let p = h.0 in let q = h.1 in grind arith)

-- ---- of at most one edge it is the next
turn_not : (v t u w : Pt) → IsMetBefore v t w u → ¬ (IsMetBefore v u w t)
turn_not v t u w (inl h) (inl k) = sooner_not v w u h.1 k.0
turn_not v t u w (inl h) (inr (inl k)) = sooner_not v t w h.0 k.0
turn_not v t u w (inl h) (inr (inr k)) = sooner_not v w u h.1 k.1
turn_not v t u w (inr (inl h)) (inl k) = sooner_not v w u h.0 k.0
turn_not v t u w (inr (inl h)) (inr (inl k)) = sooner_not v u t h.1 k.1
turn_not v t u w (inr (inl h)) (inr (inr k)) = sooner_not v w u h.0 k.1
turn_not v t u w (inr (inr h)) (inl k) = sooner_not v t w h.1 k.1
turn_not v t u w (inr (inr h)) (inr (inl k)) = sooner_not v t w h.1 k.0
turn_not v t u w (inr (inr h)) (inr (inr k)) = sooner_not v u t h.0 k.0

pub one_before : (ds : List DirectedEdge) (t u v w : Pt) → Contains ds (from_to t v) → Contains ds (from_to u v) → IsNext ds t v w → IsNext ds u v w → t ≡ u
one_before ds t u v w c d n m = elim (same_or_not t u) [ inl e ↦ e | inr a ↦ absurd (turn_not v t u w (n.first u (inr d) (λ e. a (sym e)) (λ e. m.other (sym e))) (m.first t (inr c) a (λ e. n.other (sym e)))) ]

-- ---- the order of the edges that leave
-- where p isn't less than q, q is less or they are one
or_less : (p q : Pt) → less p q ≡ false → IsBefore q p ⊎ (p ≡ q)
or_less p q h = by_test (less q p) (λ k. inl (less_is q p k)) (λ k. inr (neither_less p q h k))

no_less : (p q : Pt) → less p q ≡ false → ¬ (IsBefore p q)
no_less p q h k = false≢true (sym h ∙ is_less p q k)

pub not_through : (p q r : Pt) → less p q ≡ false → less q r ≡ false → less p r ≡ false
not_through p q r h k = not_less p r (λ m. elim (or_less p q h) [ inl n ↦ no_less q r k (before_trans q p r n m) | inr e ↦ no_less q r k (let P : Pt → Type 0 = λ t. IsBefore t r in subst P e m) ])

pub less_through : (p q r : Pt) → less q p ≡ false → less q r ≡ true → less p r ≡ true
less_through p q r h k = by_test (less p r) (λ t. t) (λ f. absurd (false≢true (sym (not_through q p r h f) ∙ k)))

pub parts : (a b c : Bool) → a || (not b && c) ≡ false → (a ≡ false) × (b ≡ false → c ≡ false)
parts true b c h = absurd (no h)
  where
    no : true ≡ false → ⊥
    no e = cc
parts false true c h = (refl, λ e. absurd (no e))
  where
    no : true ≡ false → ⊥
    no e = cc
parts false false c h = (refl, λ e. h)

whole_false : (a b c : Bool) → a ≡ false → (b ≡ false → c ≡ false) → a || (not b && c) ≡ false
whole_false a true c h f = over a h
  where
    over : (a : Bool) → a ≡ false → a || false ≡ false
    over a h = grind arith
whole_false a false c h f = over a c h (f refl)
  where
    over : (a c : Bool) → a ≡ false → c ≡ false → a || c ≡ false
    over a c h k = grind arith

pub true_parts : (a b c : Bool) → a || (not b && c) ≡ true → (a ≡ true) ⊎ ((b ≡ false) × (c ≡ true))
true_parts true b c h = inl refl
true_parts false true c h = absurd (false≢true h)
true_parts false false c h = inr (refl, h)

pub leaving_order : IsStrictWeakOrder leaves_sooner
leaving_order = record { one_way = reverse; chain = through }
  where
    reverse : (s t : LeavingEdge) → leaves_sooner s t ≡ true → leaves_sooner t s ≡ false
    reverse s t h = elim (true_parts (less s.at t.at) (less t.at s.at) (sooner s.at s.end t.end) h) [
      | inl k ↦ whole_false (less t.at s.at) (less s.at t.at) (sooner t.at t.end s.end) (not_less t.at s.at (less_not s.at t.at (less_is s.at t.at k))) (λ e. absurd (false≢true (sym e ∙ k)))
      | inr k ↦ whole_false (less t.at s.at) (less s.at t.at) (sooner t.at t.end s.end) k.0
          (λ e. (let P : Pt → Type 0 = λ v. sooner v t.end s.end ≡ false in subst P (neither_less s.at t.at e k.0) (one_way s.at s.end t.end k.1)))
    ]

    through : (s t u : LeavingEdge) → leaves_sooner s t ≡ false → leaves_sooner t u ≡ false → leaves_sooner s u ≡ false
    through s t u h k = whole_false (less s.at u.at) (less u.at s.at) (sooner s.at s.end u.end) su
        (λ e. let at = neither_less s.at u.at su e in let st = same_at at in
        chain s.at s.end t.end u.end (p.1 (not_less t.at s.at (λ n. less_apart t.at s.at n (sym st))))
        (let P : Pt → Type 0 = λ v. sooner v t.end u.end ≡ false in subst P (sym st) (q.1 (not_less u.at t.at (λ n. less_apart u.at t.at n (sym at ∙ st))))))
      where
        p : (less s.at t.at ≡ false) × (less t.at s.at ≡ false → sooner s.at s.end t.end ≡ false)
        p = parts (less s.at t.at) (less t.at s.at) (sooner s.at s.end t.end) h

        q : (less t.at u.at ≡ false) × (less u.at t.at ≡ false → sooner t.at t.end u.end ≡ false)
        q = parts (less t.at u.at) (less u.at t.at) (sooner t.at t.end u.end) k

        su : less s.at u.at ≡ false
        su = not_through s.at t.at u.at p.0 q.0

        same_at : s.at ≡ u.at → s.at ≡ t.at
        same_at e = elim (or_less s.at t.at p.0) [ inl n ↦ absurd (no_less t.at u.at q.0 (let P : Pt → Type 0 = λ v. IsBefore t.at v in subst P e n)) | inr f ↦ f ]

-- ---- places of different edges
pub one_place : (ds : List DirectedEdge) → AllPairs IsDirectedBefore ds → (i j : ℕ) → i < length ds → j < length ds → edge_at ds i ≡ edge_at ds j → i ≡ j
one_place ds up i j h k e = elim (cases_eq i j) [
  | inl f ↦ f
  | inr n ↦ elim (cases_lt i j) [
    | inl l ↦ absurd (clash (edge_at ds i) (edge_at ds j) e (up i j nothing l k))
    | inr l ↦ absurd (clash (edge_at ds j) (edge_at ds i) (sym e) (up j i nothing (omega (arith, l, n)) h))
  ]
]
  where
    clash : (d e : DirectedEdge) → d ≡ e → ¬ (IsDirectedBefore d e)
    clash d e f (inl h) = less_apart d.from e.from h (ap (λ t. t.from) f)
    clash d e f (inr h) = less_apart d.to e.to h.1 (ap (λ t. t.to) f)

pub place_same : (ds : List DirectedEdge) → AreDirected ds → (i j : ℕ) → i < length ds → j < length ds → edge_at ds i ≡ edge_at ds j → i ≡ j
place_same ds a = one_place ds a.ascending
