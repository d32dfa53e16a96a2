-- Strips ascend with columns, and along a segment whose lesser end is first.
use Rattle.std.proofs.Common.{◌≡◌, inl, ℕ, List, [], ◌∷◌, true, false, Bool, refl, sym, subst, cond, arith, length, ⊎_elim}
use Rattle.std.proofs.lemmas.Bool.{and_from, and_parts, le-leb, leb-true, lt-ltb, ltb-true}
use Rattle.std.proofs.lemmas.Int.{ints}
use Rattle.std.proofs.lemmas.List.Sums.{count_by-le-length}
use Rattle.std.specs.Prelude.{◌≤◌, ◌<◌, ◌+◌, ◌≤ℤ◌, ◌<ℤ◌, ℤ, int_le}
use Rattle.geom.specs.declared.point.Pt.{Pt}
use Rattle.geom.specs.declared.segment.Seg.{Seg}
use Rattle.geom.specs.Order.{IsBefore}
use Rattle.geom.specs.Route.{IsEarlier, Meets}
use Rattle.geom.proofs.Along.{meets_box}
use Rattle.geom.proofs.Lists.{count-cons}
use Rattle.geom.proofs.Meaning.{order_is_along_segment}
use Rattle.geom.proofs.Orders.{clash_same}
use Rattle.geom.proofs.Pixels.{meets_in, piece}
use Rattle.geom.proofs.Tests.{le_told, le_untold, le_yes}
use Rattle.strips_law.specs.Strips.{crosses, reaches, strip_at, strip_of}

one_cut : (p q : Bool) (m n : ℕ) → (p ≡ true → q ≡ true) → m ≤ n → cond p 1 0 + m ≤ cond q 1 0 + n
one_cut true true m n h k = omega arith
one_cut true false m n h k = let e : false ≡ true = h refl in cc
one_cut false true m n h k = omega arith
one_cut false false m n h k = omega arith

pub strips_grow : (cuts : List ℤ) (x y : ℤ) → x ≤ℤ y → strip_of cuts x ≤ strip_of cuts y
strips_grow [] x y h = omega arith
strips_grow (c ∷ cs) x y h =
    subst (λ (n : ℕ). n ≤ strip_of (c ∷ cs) y) (sym (count-cons (λ (d : ℤ). int_le d x) c cs))
    (subst (λ (n : ℕ). cond (int_le c x) 1 0 + strip_of cs x ≤ n) (sym (count-cons (λ (d : ℤ). int_le d y) c cs))
    (one_cut (int_le c x) (int_le c y) (strip_of cs x) (strip_of cs y) (λ e. past e) (strips_grow cs x y h)))
  where
    past : int_le c x ≡ true → int_le c y ≡ true
    past e = let t : c ≤ℤ x = le_told c x e in le_yes c y (omega (arith, ints))

-- there is one strip more than cuts
pub within_cuts : (cuts : List ℤ) (p : Pt) → strip_at cuts p ≤ length cuts
within_cuts cuts p = count_by-le-length (λ c. int_le c p.x) cuts

-- a point of an earlier strip is in an earlier column
pub earlier_column : (cuts : List ℤ) (p q : Pt) → strip_at cuts p < strip_at cuts q → p.x <ℤ q.x
earlier_column cuts p q h = at (int_le q.x p.x) refl
  where
    at : (b : Bool) → int_le q.x p.x ≡ b → p.x <ℤ q.x
    at true e = let k : strip_at cuts q ≤ strip_at cuts p = strips_grow cuts q.x p.x (le_told q.x p.x e) in absurd (omega arith)
    at false e = le_untold q.x p.x e

pub before_by_strip : (cuts : List ℤ) (p q : Pt) → strip_at cuts p < strip_at cuts q → IsBefore p q
before_by_strip cuts p q h = let k : p.x <ℤ q.x = earlier_column cuts p q h in record { column = omega (arith, ints); row = λ e. absurd (clash_same k e) }

pub strip_by_before : (cuts : List ℤ) (p q : Pt) → IsBefore p q → strip_at cuts p ≤ strip_at cuts q
strip_by_before cuts p q h = strips_grow cuts p.x q.x h.column

module _ (cuts : List ℤ) (s : Seg) (b : IsBefore s.a s.b) where
  met_columns : (c : Pt) → Meets s c → (s.a.x ≤ℤ c.x) × (c.x ≤ℤ s.b.x)
  met_columns c m = let k : s.a.x ≤ℤ s.b.x = b.column in ⊎_elim (λ h. h) (λ h. between s.a.x s.b.x c.x k h.0 h.1) (meets_box (piece s) c (meets_in s c m)).0
    where
      between : (x y z : ℤ) → x ≤ℤ y → y ≤ℤ z → z ≤ℤ x → (x ≤ℤ z) × (z ≤ℤ y)
      between x y z h k l = (omega (arith, ints), omega (arith, ints))

  -- a pixel that the segment meets lies in the strips of its ends or between them
  pub met_strips : (c : Pt) → Meets s c → (strip_at cuts s.a ≤ strip_at cuts c) × (strip_at cuts c ≤ strip_at cuts s.b)
  met_strips c m = let h = met_columns c m in (strips_grow cuts s.a.x c.x h.0, strips_grow cuts c.x s.b.x h.1)

  -- of two such pixels that of the earlier strip comes first
  pub earlier_by_strip : (c e : Pt) → Meets s c → Meets s e → strip_at cuts c < strip_at cuts e → IsEarlier s c e
  earlier_by_strip c e m n h =
      let k = met_columns c m in
      let l = met_columns e n in
      let f : c.x <ℤ e.x = earlier_column cuts c e h in
      (order_is_along_segment s c e m n).1 (inl (runs s.a.x s.b.x c.x e.x k.0 l.1 f, f))
    where
      runs : (x y u v : ℤ) → x ≤ℤ u → v ≤ℤ y → u <ℤ v → x <ℤ y
      runs x y u v h k l = omega (arith, ints)

  pub reaches_met : (strip : ℕ) (c : Pt) → Meets s c → strip_at cuts c ≡ strip → reaches cuts strip s ≡ true
  reaches_met strip c m e = let h = met_strips c m in and_from _ _ (le-leb _ _ (subst (λ (n : ℕ). strip_at cuts s.a ≤ n) e h.0)) (le-leb _ _ (subst (λ (n : ℕ). n ≤ strip_at cuts s.b) e h.1))

pub crosses_told : (cuts : List ℤ) (strip : ℕ) (s : Seg) → crosses cuts strip s ≡ true → (strip_at cuts s.a < strip) × (strip ≤ strip_at cuts s.b)
crosses_told cuts strip s h = let k = and_parts _ _ h in (ltb-true _ _ k.0, leb-true _ _ k.1)

pub crosses_from : (cuts : List ℤ) (strip : ℕ) (s : Seg) → strip_at cuts s.a < strip → strip ≤ strip_at cuts s.b → crosses cuts strip s ≡ true
crosses_from cuts strip s h k = and_from _ _ (lt-ltb _ _ h) (le-leb _ _ k)

-- what crosses one of its borders reaches a strip
pub crosses_left : (cuts : List ℤ) (strip : ℕ) (s : Seg) → crosses cuts strip s ≡ true → reaches cuts strip s ≡ true
crosses_left cuts strip s h = let k = crosses_told cuts strip s h in and_from _ _ (le-leb (strip_at cuts s.a) strip (omega (arith, k.0))) (le-leb _ _ k.1)

pub crosses_right : (cuts : List ℤ) (strip : ℕ) (s : Seg) → crosses cuts (strip + 1) s ≡ true → reaches cuts strip s ≡ true
crosses_right cuts strip s h = let k = crosses_told cuts (strip + 1) s h in and_from _ _ (le-leb (strip_at cuts s.a) strip (omega (arith, k.0))) (le-leb strip (strip_at cuts s.b) (omega (arith, k.1)))
