-- The clockwise order round a vertex.
use Rattle.std.proofs.Common.{◌≡◌, ◌⊎◌, ℕ, ◌<◌, ◌≤◌, Bool, true, false, cond, refl, sym, ◌∙◌, ap, subst, inl, inr, arith}
use Rattle.std.specs.Prelude.{ℤ, pos, ◌+ℤ◌, ◌-ℤ◌, ◌*ℤ◌, neg_ℤ, ◌<ℤ◌, ◌≤ℤ◌, ◌&&◌, ◌||◌, ◌==◌, nat_lt}
use lib.Signed.{lt_z, le_z}
use borrow.Author.Differences.{ints}
use Rattle.std.proofs.lemmas.Bool.Decides.{nat_tests}
use Rattle.geom.specs.declared.point.Pt.{Pt}
use Rattle.geom.specs.Order.{IsBefore}
use Rattle.geom.proofs.Edges.{before_cases, before_by_cases}
use Rattle.geom.proofs.Numbers.{nonneg, zero_is_nonneg, strict_gap_is, no_gap_is}
use Rattle.geom.proofs.Integers.{expand, linear, cancel_nonneg, none_left, none_right, mul_pos, mul_nonneg}
use Rattle.geom.proofs.Points.{or_either}
use Rattle.geom.proofs.Tests.{lt_z_told}
use Rattle.geom.specs.Determinant.{side}
use Rattle.polygonize.specs.Clockwise.{less, half, sooner}

-- ---- vectors of the first half turn
abbrev pub Right : ℤ → ℤ → Type 0
Right x y = (pos 0 <ℤ x) ⊎ ((x ≡ pos 0) × (pos 0 <ℤ y))

right_x : (x y : ℤ) → Right x y → pos 0 ≤ℤ x
right_x x y (inl h) = nonneg x h
right_x x y (inr h) = zero_is_nonneg x h.0

chain_is : (ax ay bx b' cx cy : ℤ) → bx *ℤ (ax *ℤ cy -ℤ ay *ℤ cx) ≡ ax *ℤ (bx *ℤ cy -ℤ b' *ℤ cx) +ℤ cx *ℤ (ax *ℤ b' -ℤ ay *ℤ bx)
chain_is ax ay bx b' cx cy = simp expand (omega (arith, linear))

sum_nonneg : (a b : ℤ) → pos 0 ≤ℤ a → pos 0 ≤ℤ b → pos 0 ≤ℤ (a +ℤ b)
sum_nonneg a b h k = omega (arith, ints)

pub chain_right : (ax ay bx b' cx cy : ℤ) → Right ax ay → Right bx b' → Right cx cy → pos 0 ≤ℤ (ax *ℤ b' -ℤ ay *ℤ bx) → pos 0 ≤ℤ (bx *ℤ cy -ℤ b' *ℤ cx) → pos 0 ≤ℤ (ax *ℤ cy -ℤ ay *ℤ cx)
chain_right ax ay bx b' cx cy ra (inl h) rc m n = cancel_nonneg bx (ax *ℤ cy -ℤ ay *ℤ cx) h
    (let P : ℤ → Type 0 = λ t. pos 0 ≤ℤ t in subst P (sym (chain_is ax ay bx b' cx cy)) (sum_nonneg (ax *ℤ (bx *ℤ cy -ℤ b' *ℤ cx)) (cx *ℤ (ax *ℤ b' -ℤ ay *ℤ bx))
    (mul_nonneg ax (bx *ℤ cy -ℤ b' *ℤ cx) (right_x ax ay ra) n) (mul_nonneg cx (ax *ℤ b' -ℤ ay *ℤ bx) (right_x cx cy rc) m)))
chain_right ax ay bx b' cx cy ra (inr h) (inl k) m n = absurd (clash (bx *ℤ cy) (b' *ℤ cx) (ap (λ t. t *ℤ cy) h.0 ∙ none_left cy) (mul_pos b' cx h.1 k) n)
  where
    clash : (s t : ℤ) → s ≡ pos 0 → pos 0 <ℤ t → pos 0 ≤ℤ (s -ℤ t) → ⊥
    clash s t e h k = omega (arith, ints)
chain_right ax ay bx b' cx cy ra (inr h) (inr k) m n = plain (ax *ℤ cy) (ay *ℤ cx) (mul_nonneg ax cy (right_x ax ay ra) (nonneg cy k.1)) (ap (λ t. ay *ℤ t) k.0 ∙ none_right ay)
  where
    plain : (s t : ℤ) → pos 0 ≤ℤ s → t ≡ pos 0 → pos 0 ≤ℤ (s -ℤ t)
    plain s t h e = omega (arith, ints)

neg_cross : (ax ay bx b' : ℤ) → neg_ℤ ax *ℤ neg_ℤ b' -ℤ neg_ℤ ay *ℤ neg_ℤ bx ≡ ax *ℤ b' -ℤ ay *ℤ bx
neg_cross ax ay bx b' = simp expand (omega (arith, linear))

pub chain_left : (ax ay bx b' cx cy : ℤ) → Right (neg_ℤ ax) (neg_ℤ ay) → Right (neg_ℤ bx) (neg_ℤ b') → Right (neg_ℤ cx) (neg_ℤ cy) → pos 0 ≤ℤ (ax *ℤ b' -ℤ ay *ℤ bx) → pos 0 ≤ℤ (bx *ℤ cy -ℤ b' *ℤ cx) → pos 0 ≤ℤ (ax *ℤ cy -ℤ ay *ℤ cx)
chain_left ax ay bx b' cx cy ra rb rc m n = let P : ℤ → Type 0 = λ t. pos 0 ≤ℤ t in subst P (neg_cross ax ay cx cy)
    (chain_right (neg_ℤ ax) (neg_ℤ ay) (neg_ℤ bx) (neg_ℤ b') (neg_ℤ cx) (neg_ℤ cy) ra rb rc (subst P (sym (neg_cross ax ay bx b')) m) (subst P (sym (neg_cross bx b' cx cy)) n))

-- ---- tests

and_left : (a b : Bool) → a && b ≡ true → a ≡ true
and_left true b h = refl
and_left false b h = h

and_right : (a b : Bool) → a && b ≡ true → b ≡ true
and_right true b h = h
and_right false b h = absurd (no h)
  where
    no : false ≡ true → ⊥
    no e = cc

or_false : (a b : Bool) → a || b ≡ false → (a ≡ false) × (b ≡ false)
or_false true b h = absurd (no h)
  where
    no : true ≡ false → ⊥
    no e = cc
or_false false b h = (refl, h)

lt_false : (a c : ℤ) → lt_z a c ≡ false → c ≤ℤ a
lt_false a c h = omega (arith, ints)

lt_yes : (a c : ℤ) → a <ℤ c → lt_z a c ≡ true
lt_yes a c h = grind (arith, ints)

lt_no : (a c : ℤ) → c ≤ℤ a → lt_z a c ≡ false
lt_no a c h = grind (arith, ints)

both_le : (a c : ℤ) → le_z a c ≡ true → le_z c a ≡ true → a ≡ c
both_le a c h k = omega (arith, ints)

pub less_is : (p q : Pt) → less p q ≡ true → IsBefore p q
less_is p q h = before_by_cases p q (elim (or_either (lt_z p.x q.x) ((le_z p.x q.x && le_z q.x p.x) && lt_z p.y q.y) h) [
  | inl k ↦ inl (lt_z_told p.x q.x k)
  | inr k ↦ inr (
    both_le p.x q.x (and_left (le_z p.x q.x) (le_z q.x p.x) (and_left (le_z p.x q.x && le_z q.x p.x) (lt_z p.y q.y) k)) (and_right (le_z p.x q.x) (le_z q.x p.x) (and_left (le_z p.x q.x && le_z q.x p.x) (lt_z p.y q.y) k)),
    lt_z_told p.y q.y (and_right (le_z p.x q.x && le_z q.x p.x) (lt_z p.y q.y) k),
  )
])

le_yes : (a c : ℤ) → a ≡ c → le_z a c && le_z c a ≡ true
le_yes a c e = grind (arith, ints)

pub is_less : (p q : Pt) → IsBefore p q → less p q ≡ true
is_less p q h = by_kind (before_cases p q h)
  where
    first : (a b : Bool) → a ≡ true → a || b ≡ true
    first a b h = grind arith

    second : (a b c : Bool) → b ≡ true → c ≡ true → a || (b && c) ≡ true
    second a b c h k = grind arith

    by_kind : (p.x <ℤ q.x) ⊎ ((p.x ≡ q.x) × (p.y <ℤ q.y)) → less p q ≡ true
    by_kind (inl h) = first (lt_z p.x q.x) ((le_z p.x q.x && le_z q.x p.x) && lt_z p.y q.y) (lt_yes p.x q.x h)
    by_kind (inr h) = second (lt_z p.x q.x) (le_z p.x q.x && le_z q.x p.x) (lt_z p.y q.y) (le_yes p.x q.x h.0) (lt_yes p.y q.y h.1)

pub neither_less : (p q : Pt) → less p q ≡ false → less q p ≡ false → p ≡ q
neither_less p q h k = λ i. record { x = same_x i; y = same_y i }
  where
    between : (a c : ℤ) → lt_z a c ≡ false → lt_z c a ≡ false → a ≡ c
    between a c h k = omega (arith, ints)

    same_x : p.x ≡ q.x
    same_x = between p.x q.x (or_false (lt_z p.x q.x) ((le_z p.x q.x && le_z q.x p.x) && lt_z p.y q.y) h).0 (or_false (lt_z q.x p.x) ((le_z q.x p.x && le_z p.x q.x) && lt_z q.y p.y) k).0

    past : (b c : Bool) → b ≡ true → b && c ≡ false → c ≡ false
    past b c h k = grind arith

    same_y : p.y ≡ q.y
    same_y = between p.y q.y (past (le_z p.x q.x && le_z q.x p.x) (lt_z p.y q.y) (le_yes p.x q.x same_x) (or_false (lt_z p.x q.x) ((le_z p.x q.x && le_z q.x p.x) && lt_z p.y q.y) h).1)
        (past (le_z q.x p.x && le_z p.x q.x) (lt_z q.y p.y) (le_yes q.x p.x (sym same_x)) (or_false (lt_z q.x p.x) ((le_z q.x p.x && le_z p.x q.x) && lt_z q.y p.y) k).1)

-- ---- halves
abbrev number : Bool → Bool → ℕ
number s t = cond s 0 (cond t 1 2)

three : (s t : Bool) → ((s ≡ true) × (number s t ≡ 0)) ⊎ ((s ≡ false) × (t ≡ true) × (number s t ≡ 1)) ⊎ ((s ≡ false) × (t ≡ false) × (number s t ≡ 2))
three true t = inl (refl, refl)
three false true = inr (inl (refl, refl, refl))
three false false = inr (inr (refl, refl, refl))

pub data Half (v a : Pt) : Type 0 where
  right : IsBefore v a → half v a ≡ 0 → Half v a
  left : IsBefore a v → half v a ≡ 1 → Half v a
  itself : v ≡ a → half v a ≡ 2 → Half v a

pub half_of : (v a : Pt) → Half v a
half_of v a = elim (three (less v a) (less a v)) [
  | inl h ↦ right (less_is v a h.0) h.1
  | inr k ↦ elim k [ inl h ↦ left (less_is a v h.1) h.2 | inr h ↦ itself (neither_less v a h.0 h.1) h.2 ]
]

from_right : (v a : Pt) → IsBefore v a → Right (a.x -ℤ v.x) (a.y -ℤ v.y)
from_right v a h = by_kind (before_cases v a h)
  where
    by_kind : (v.x <ℤ a.x) ⊎ ((v.x ≡ a.x) × (v.y <ℤ a.y)) → Right (a.x -ℤ v.x) (a.y -ℤ v.y)
    by_kind (inl h) = inl (strict_gap_is v.x a.x h)
    by_kind (inr h) = inr (no_gap_is v.x a.x h.0, strict_gap_is v.y a.y h.1)

from_left : (v a : Pt) → IsBefore a v → Right (neg_ℤ (a.x -ℤ v.x)) (neg_ℤ (a.y -ℤ v.y))
from_left v a h = by_kind (before_cases a v h)
  where
    more : (p q : ℤ) → q <ℤ p → pos 0 <ℤ neg_ℤ (q -ℤ p)
    more p q h = omega (arith, ints)

    none : (p q : ℤ) → q ≡ p → neg_ℤ (q -ℤ p) ≡ pos 0
    none p q h = omega (arith, ints)

    by_kind : (a.x <ℤ v.x) ⊎ ((a.x ≡ v.x) × (a.y <ℤ v.y)) → Right (neg_ℤ (a.x -ℤ v.x)) (neg_ℤ (a.y -ℤ v.y))
    by_kind (inl h) = inl (more v.x a.x h)
    by_kind (inr h) = inr (none v.x a.x h.0, more v.y a.y h.1)

-- ---- the test by its parts
pub sooner_false : (m n : ℕ) (x : ℤ) → nat_lt m n || ((m == n) && lt_z x (pos 0)) ≡ false → (n ≤ m) × (m ≡ n → pos 0 ≤ℤ x)
sooner_false m n x h = (order m n (or_false (nat_lt m n) ((m == n) && lt_z x (pos 0)) h).0, λ e. lt_false x (pos 0) (past (m == n) (lt_z x (pos 0)) (equal m n e) (or_false (nat_lt m n) ((m == n) && lt_z x (pos 0)) h).1))
  where
    order : (m n : ℕ) → nat_lt m n ≡ false → n ≤ m
    order m n h = grind (arith, nat_tests)

    equal : (m n : ℕ) → m ≡ n → (m == n) ≡ true
    equal m n h = grind (arith, nat_tests)

    past : (b c : Bool) → b ≡ true → b && c ≡ false → c ≡ false
    past b c h k = grind arith

false_sooner : (m n : ℕ) (x : ℤ) → n ≤ m → (m ≡ n → pos 0 ≤ℤ x) → nat_lt m n || ((m == n) && lt_z x (pos 0)) ≡ false
false_sooner m n x h f = neither (nat_lt m n) (m == n) (lt_z x (pos 0)) (order m n h) (λ e. lt_no x (pos 0) (f (equal m n e)))
  where
    order : (m n : ℕ) → n ≤ m → nat_lt m n ≡ false
    order m n h = grind (arith, nat_tests)

    equal : (m n : ℕ) → (m == n) ≡ true → m ≡ n
    equal m n h = grind (arith, nat_tests)

    neither : (a b c : Bool) → a ≡ false → (b ≡ true → c ≡ false) → a || (b && c) ≡ false
    neither a b c h f = grind arith

pub sooner_true : (m n : ℕ) (x : ℤ) → nat_lt m n || ((m == n) && lt_z x (pos 0)) ≡ true → (m < n) ⊎ ((m ≡ n) × (x <ℤ pos 0))
sooner_true m n x h = elim (or_either (nat_lt m n) ((m == n) && lt_z x (pos 0)) h) [
  | inl k ↦ inl (order m n k)
  | inr k ↦ inr (equal m n (and_left (m == n) (lt_z x (pos 0)) k), lt_z_told x (pos 0) (and_right (m == n) (lt_z x (pos 0)) k))
]
  where
    order : (m n : ℕ) → nat_lt m n ≡ true → m < n
    order m n h = grind (arith, nat_tests)

    equal : (m n : ℕ) → (m == n) ≡ true → m ≡ n
    equal m n h = grind (arith, nat_tests)

-- ---- an order, up to equal directions
turned : (v a b : Pt) → side v b a ≡ neg_ℤ (side v a b)
turned v a b = plain (a.x -ℤ v.x) (a.y -ℤ v.y) (b.x -ℤ v.x) (b.y -ℤ v.y)
  where
    plain : (a b c d : ℤ) → c *ℤ b -ℤ d *ℤ a ≡ neg_ℤ (a *ℤ d -ℤ b *ℤ c)
    plain a b c d = simp expand (omega (arith, linear))

pub one_way : (v a b : Pt) → sooner v a b ≡ true → sooner v b a ≡ false
one_way v a b h = elim (sooner_true (half v a) (half v b) (side v a b) h) [
  | inl k ↦ false_sooner (half v b) (half v a) (side v b a) (weak (half v a) (half v b) k) (λ e. absurd (apart (half v a) (half v b) k e))
  | inr k ↦ false_sooner (half v b) (half v a) (side v b a) (same (half v a) (half v b) k.0) (λ e. other (side v a b) (side v b a) k.1 (turned v a b))
]
  where
    weak : (m n : ℕ) → m < n → m ≤ n
    weak m n h = omega arith

    apart : (m n : ℕ) → m < n → n ≡ m → ⊥
    apart m n h e = omega arith

    same : (m n : ℕ) → m ≡ n → m ≤ n
    same m n e = omega arith

    other : (x y : ℤ) → x <ℤ pos 0 → y ≡ neg_ℤ x → pos 0 ≤ℤ y
    other x y h e = omega (arith, ints)

zero_one : (k l : ℕ) → k ≡ l → k ≡ 0 → l ≡ 1 → ⊥
zero_one k l e f g = omega arith

zero_two : (k l : ℕ) → k ≡ l → k ≡ 0 → l ≡ 2 → ⊥
zero_two k l e f g = omega arith

one_zero : (k l : ℕ) → k ≡ l → k ≡ 1 → l ≡ 0 → ⊥
one_zero k l e f g = omega arith

one_two : (k l : ℕ) → k ≡ l → k ≡ 1 → l ≡ 2 → ⊥
one_two k l e f g = omega arith

chain_half : (v a b c : Pt) → Half v a → Half v b → Half v c → half v a ≡ half v b → half v b ≡ half v c → pos 0 ≤ℤ side v a b → pos 0 ≤ℤ side v b c → pos 0 ≤ℤ side v a c
chain_half v a b c (right ha ea) (right hb eb) (right hc ec) e f m n = chain_right (a.x -ℤ v.x) (a.y -ℤ v.y) (b.x -ℤ v.x) (b.y -ℤ v.y) (c.x -ℤ v.x) (c.y -ℤ v.y) (from_right v a ha) (from_right v b hb) (from_right v c hc) m n
chain_half v a b c (left ha ea) (left hb eb) (left hc ec) e f m n = chain_left (a.x -ℤ v.x) (a.y -ℤ v.y) (b.x -ℤ v.x) (b.y -ℤ v.y) (c.x -ℤ v.x) (c.y -ℤ v.y) (from_left v a ha) (from_left v b hb) (from_left v c hc) m n
chain_half v a b c (itself ha ea) hb hc e f m n = let P : Pt → Type 0 = λ t. pos 0 ≤ℤ side v t c in subst P ha (flat v.x v.y (c.x -ℤ v.x) (c.y -ℤ v.y))
  where
    flat : (x y s t : ℤ) → pos 0 ≤ℤ ((x -ℤ x) *ℤ t -ℤ (y -ℤ y) *ℤ s)
    flat x y s t = zero (x -ℤ x) (y -ℤ y) s t (gone x) (gone y)
      where
        gone : (x : ℤ) → x -ℤ x ≡ pos 0
        gone x = omega (arith, ints)

        zero : (p q s t : ℤ) → p ≡ pos 0 → q ≡ pos 0 → pos 0 ≤ℤ (p *ℤ t -ℤ q *ℤ s)
        zero p q s t e f = rw (e, f) (nil s t)
          where
            nil : (s t : ℤ) → pos 0 ≤ℤ (pos 0 *ℤ t -ℤ pos 0 *ℤ s)
            nil s t = omega (arith, ints)
chain_half v a b c (right ha ea) (left hb eb) hc e f m n = absurd (zero_one _ _ e ea eb)
chain_half v a b c (right ha ea) (itself hb eb) hc e f m n = absurd (zero_two _ _ e ea eb)
chain_half v a b c (right ha ea) (right hb eb) (left hc ec) e f m n = absurd (zero_one _ _ f eb ec)
chain_half v a b c (right ha ea) (right hb eb) (itself hc ec) e f m n = absurd (zero_two _ _ f eb ec)
chain_half v a b c (left ha ea) (right hb eb) hc e f m n = absurd (one_zero _ _ e ea eb)
chain_half v a b c (left ha ea) (itself hb eb) hc e f m n = absurd (one_two _ _ e ea eb)
chain_half v a b c (left ha ea) (left hb eb) (right hc ec) e f m n = absurd (one_zero _ _ f eb ec)
chain_half v a b c (left ha ea) (left hb eb) (itself hc ec) e f m n = absurd (one_two _ _ f eb ec)

pub chain : (v a b c : Pt) → sooner v a b ≡ false → sooner v b c ≡ false → sooner v a c ≡ false
chain v a b c h k = false_sooner (half v a) (half v c) (side v a c) (down (half v a) (half v b) (half v c) p.0 q.0)
    (λ e. let ab = level (half v a) (half v b) (half v c) p.0 q.0 e in chain_half v a b c (half_of v a) (half_of v b) (half_of v c) ab (sym ab ∙ e) (p.1 ab) (q.1 (sym ab ∙ e)))
  where
    p : (half v b ≤ half v a) × (half v a ≡ half v b → pos 0 ≤ℤ side v a b)
    p = sooner_false (half v a) (half v b) (side v a b) h

    q : (half v c ≤ half v b) × (half v b ≡ half v c → pos 0 ≤ℤ side v b c)
    q = sooner_false (half v b) (half v c) (side v b c) k

    down : (l m n : ℕ) → m ≤ l → n ≤ m → n ≤ l
    down l m n h k = omega arith

    level : (l m n : ℕ) → m ≤ l → n ≤ m → l ≡ n → l ≡ m
    level l m n h k e = omega arith
