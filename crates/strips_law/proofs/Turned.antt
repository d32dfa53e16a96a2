-- A route turned round.
use Rattle.std.proofs.Common.{◌≡◌, ◌↔◌, ℕ, List, ◌-◌, inl, inr, sym, subst, arith, reverse}
use Rattle.std.proofs.lemmas.List.{get_or-reverse, length-reverse}
use Rattle.std.proofs.lemmas.List.Elements.{Contains-get_or}
use Rattle.std.proofs.lemmas.List.Sorted.{Contains-permutation, IsPermutation-reverse, IsPermutation-sym}
use Rattle.std.specs.Prelude.{◌<◌, ◌<ℤ◌, ℤ, AllPairs, Contains, get_or, length}
use Rattle.geom.specs.declared.point.Pt.{Pt}
use Rattle.geom.specs.declared.segment.Seg.{Seg}
use Rattle.geom.specs.Hot.{IsHot}
use Rattle.geom.specs.OnSegment.{IsOn}
use Rattle.geom.specs.Route.{IsAhead, IsEarlier, IsRoute, Meets}
use Rattle.geom.proofs.Meaning.{on_turned, order_is_along_segment}

module _ (s turned : Seg) (starts : turned.a ≡ s.b) (ends : turned.b ≡ s.a) where
  meets_turned : (c : Pt) → Meets s c → Meets turned c
  meets_turned c (z, on, pixel) = (z, subst (λ (p : Pt). IsOn p turned.b z) (sym starts) (subst (λ (p : Pt). IsOn s.b p z) (sym ends) (on_turned s.a s.b z on)), pixel)

  ahead_turned : (c e : Pt) → IsAhead s c e → IsAhead turned e c
  ahead_turned c e (inl (run, step)) = inr (inl (columns (λ x y. y <ℤ x) run, step))
    where
      columns : (R : ℤ → ℤ → Type 0) → R s.b.x s.a.x → R turned.a.x turned.b.x
      columns R h = subst (λ (p : Pt). R p.x turned.b.x) (sym starts) (subst (λ (p : Pt). R s.b.x p.x) (sym ends) h)
  ahead_turned c e (inr (inl (run, step))) = inl (columns (λ x y. x <ℤ y) run, step)
    where
      columns : (R : ℤ → ℤ → Type 0) → R s.b.x s.a.x → R turned.a.x turned.b.x
      columns R h = subst (λ (p : Pt). R p.x turned.b.x) (sym starts) (subst (λ (p : Pt). R s.b.x p.x) (sym ends) h)
  ahead_turned c e (inr (inr (same, inl (run, step)))) = inr (inr (sym same, inr (rows (λ x y. y <ℤ x) run, step)))
    where
      rows : (R : ℤ → ℤ → Type 0) → R s.b.y s.a.y → R turned.a.y turned.b.y
      rows R h = subst (λ (p : Pt). R p.y turned.b.y) (sym starts) (subst (λ (p : Pt). R s.b.y p.y) (sym ends) h)
  ahead_turned c e (inr (inr (same, inr (run, step)))) = inr (inr (sym same, inl (rows (λ x y. x <ℤ y) run, step)))
    where
      rows : (R : ℤ → ℤ → Type 0) → R s.b.y s.a.y → R turned.a.y turned.b.y
      rows R h = subst (λ (p : Pt). R p.y turned.b.y) (sym starts) (subst (λ (p : Pt). R s.b.y p.y) (sym ends) h)

  earlier_turned : (c e : Pt) → Meets s c → Meets s e → IsEarlier s c e → IsEarlier turned e c
  earlier_turned c e m n h = (order_is_along_segment turned e c (meets_turned e n) (meets_turned c m)).1 (ahead_turned c e ((order_is_along_segment s c e m n).0 h))

in_reverse : (route : List Pt) (c : Pt) → Contains (reverse route) c ↔ Contains route c
in_reverse route c = (
  λ h. Contains-permutation (reverse route) route c (IsPermutation-sym route (reverse route) (IsPermutation-reverse route)) h,
  λ h. Contains-permutation route (reverse route) c (IsPermutation-reverse route) h,
)

-- a segment turned round has the same route turned round
pub routes_turn : (segments : List Seg) (s turned : Seg) (route : List Pt) → turned.a ≡ s.b → turned.b ≡ s.a → IsRoute segments s route → IsRoute segments turned (reverse route)
routes_turn segments s turned route starts ends r = record { exact = exact; ordered = ordered }
  where
    met : (n : ℕ) (d : Pt) → n < length route → Meets s (get_or route n d)
    met n d l = ((r.exact (get_or route n d)).0 (Contains-get_or route n d l)).1

    exact : (c : Pt) → Contains (reverse route) c ↔ (IsHot segments c × Meets turned c)
    exact c = (
      λ h. let k = (r.exact c).0 ((in_reverse route c).0 h) in (k.0, meets_turned s turned starts ends c k.1),
      λ h. (in_reverse route c).1 ((r.exact c).1 (h.0, meets_turned turned s (sym ends) (sym starts) c h.1)),
    )

    ordered : AllPairs (IsEarlier turned) (reverse route)
    ordered i j d h k =
        let short : j < length route = subst (λ (n : ℕ). j < n) (length-reverse route) k in
        let c = get_or route (length route - 1 - j) d in
        let e = get_or route (length route - 1 - i) d in
        let m : Meets s c = met (length route - 1 - j) d (omega arith) in
        let n : Meets s e = met (length route - 1 - i) d (omega arith) in
        let o : IsEarlier s c e = r.ordered (length route - 1 - j) (length route - 1 - i) d (omega arith) (omega arith) in
        subst (λ (p : Pt). IsEarlier turned p (get_or (reverse route) j d)) (sym (get_or-reverse route i d (omega arith)))
        (subst (λ (p : Pt). IsEarlier turned e p) (sym (get_or-reverse route j d short)) (earlier_turned s turned starts ends c e m n o))
