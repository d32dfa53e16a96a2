-- The rings of cycles as they are cut, in parts and one after another.
use Rattle.std.proofs.Common.{◌≡◌, ℕ, suc, ◌+◌, ◌-◌, ◌<◌, ◌≤◌, List, [], ◌∷◌, ◌++◌, length, drop, get_or, sym, ◌∙◌, ap, subst, inl, inr, arith, length-append}
use Rattle.std.specs.Prelude.{Contains}
use Rattle.std.proofs.lemmas.Bool.{cases_eq, cases_lt}
use Rattle.std.proofs.Math.Seq.{drop-cons, get_or-append_right}
use Rattle.std.proofs.lemmas.List.{drop_all, get_or-map, get_or_append_left, get_or_push, length-drop}
use Rattle.geom.specs.declared.point.Pt.{Pt}
use Rattle.geom.specs.declared.directed.DirectedEdge.{DirectedEdge}
use Rattle.geom.specs.Holes.{IsHole}
use Rattle.polygonize.specs.declared.cut_ring.CutRing.{CutRing}
use Rattle.polygonize.specs.CutRing.{AreCyclesCut, AreHoleNumbers, IsCycleCut}
use Rattle.polygonize.specs.Next.{nothing, edge_at, ring_of}

-- ---- parts
pub none_cut : {M : Type 0} (ds : List DirectedEdge) (cycles : List (List ℕ)) (from : ℕ) → AreCyclesCut {M = M} ds cycles from from []
none_cut ds cycles from = record { reaches = omega arith; each = λ k d h. absurd (omega arith) }

pub one_cut : {M : Type 0} (ds : List DirectedEdge) (cycles : List (List ℕ)) (from n : ℕ) (rings : List (CutRing M)) (ring : CutRing M) → IsCycleCut ds (get_or cycles n []) ring → AreCyclesCut ds cycles from n rings → AreCyclesCut ds cycles from (n + 1) (rings ++ ring ∷ [])
one_cut {M} ds cycles from n rings ring c l = record { reaches = (let a = length-append rings (ring ∷ []) in let b = l.reaches in omega (arith, a, b)); each = each }
  where
    each : (k : ℕ) (d : CutRing M) → k < length (rings ++ ring ∷ []) → IsCycleCut ds (get_or cycles (from + k) []) (get_or (rings ++ ring ∷ []) k d)
    each k d h = elim (cases_eq k (length rings)) [
      | inl e ↦ (let b = l.reaches in let at : from + k ≡ n = omega (arith, b, e) in let P : ℕ → Type 0 = λ j. IsCycleCut ds (get_or cycles j []) (get_or (rings ++ ring ∷ []) k d) in subst P (sym at)
          (let Q : CutRing M → Type 0 = IsCycleCut ds (get_or cycles n []) in subst Q (sym (get_or_push rings ring d k (sym e))) c))
      | inr o ↦ (let a = length-append rings (ring ∷ []) in let inside : k < length rings = omega (arith, a, h, o) in
          let Q : CutRing M → Type 0 = IsCycleCut ds (get_or cycles (from + k) []) in subst Q (sym (get_or_append_left rings (ring ∷ []) d k inside)) (l.each k d inside))
    ]

pub both_cut : {M : Type 0} (ds : List DirectedEdge) (cycles : List (List ℕ)) (from middle past : ℕ) (rings more : List (CutRing M)) → AreCyclesCut ds cycles from middle rings → AreCyclesCut ds cycles middle past more → AreCyclesCut ds cycles from past (rings ++ more)
both_cut {M} ds cycles from middle past rings more l r = record { reaches = (let a = length-append rings more in let b = l.reaches in let d = r.reaches in omega (arith, a, b, d)); each = each }
  where
    each : (k : ℕ) (d : CutRing M) → k < length (rings ++ more) → IsCycleCut ds (get_or cycles (from + k) []) (get_or (rings ++ more) k d)
    each k d h = elim (cases_lt k (length rings)) [
      | inl inside ↦ (let Q : CutRing M → Type 0 = IsCycleCut ds (get_or cycles (from + k) []) in subst Q (sym (get_or_append_left rings more d k inside)) (l.each k d inside))
      | inr past ↦ (let a = length-append rings more in let b = l.reaches in let j = k - length rings in let is : middle + j ≡ from + k = omega (arith, b, past) in
          let within : j < length more = omega (arith, a, h, past) in
          let Q : CutRing M → Type 0 = IsCycleCut ds (get_or cycles (from + k) []) in subst Q (sym (get_or-append_right rings more k d past))
          (let P : ℕ → Type 0 = λ i. IsCycleCut ds (get_or cycles i []) (get_or more j d) in subst P is (r.each j d within)))
    ]

-- ---- holes
some_item : {X : Type 0} (xs : List X) → 0 < length xs → X
some_item [] h = absurd (omega arith)
some_item (x ∷ xs) h = x

pub holes_known : {M : Type 0} (ds : List DirectedEdge) (cycles : List (List ℕ)) (rings : List (CutRing M)) (holes : List ℕ) → AreCyclesCut ds cycles 0 (length cycles) rings → AreHoleNumbers rings holes → (r : ℕ) → r < length cycles → IsHole (ring_of ds (get_or cycles r [])) → Contains holes r
holes_known {M} ds cycles rings holes cut numbers r h q = (numbers.each r d inside).1 (known.hole.1 (let P : List Pt → Type 0 = IsHole in subst P (sym known.same) q))
  where
    inside : r < length rings
    inside = let a = cut.reaches in omega (arith, a, h)

    d : CutRing M
    d = some_item rings (let i = inside in omega (arith, i))

    known : IsCycleCut ds (get_or cycles r []) (get_or rings r d)
    known = let P : ℕ → Type 0 = λ j. IsCycleCut ds (get_or cycles j []) (get_or rings r d) in subst P (omega arith) (cut.each r d inside)

-- ---- the next ring of those that are left
pub taken_next : {X : Type 0} (xs : List X) (n : ℕ) (x : X) (rest : List X) → drop n xs ≡ x ∷ rest → (n < length xs) × (get_or xs n x ≡ x) × (drop (n + 1) xs ≡ rest)
taken_next xs n x rest e = (inside, head, add-one_drop)
  where
    inside : n < length xs
    inside = elim (cases_lt n (length xs)) [ inl l ↦ l | inr l ↦ absurd (none xs n x rest l e) ]
      where
        none : {X : Type 0} (xs : List X) (n : ℕ) (x : X) (rest : List X) → length xs ≤ n → drop n xs ≡ x ∷ rest → ⊥
        none xs n x rest l e = absurd (let z : [] ≡ x ∷ rest = sym (drop_all n xs l) ∙ e in cc)

    parts : get_or xs n x ∷ drop (suc n) xs ≡ x ∷ rest
    parts = sym (drop-cons xs n x inside) ∙ e

    head : get_or xs n x ≡ x
    head = ap (λ t. get_or t 0 x) parts

    add-one_drop : drop (n + 1) xs ≡ rest
    add-one_drop = let next : n + 1 ≡ suc n = omega arith in ap (λ k. drop k xs) next ∙ ap (λ t. drop 1 t) parts

-- it is that of the cycle with its number
pub cut_at : {M : Type 0} (ds : List DirectedEdge) (cycles : List (List ℕ)) (rings : List (CutRing M)) (n : ℕ) (ring : CutRing M) (rest : List (CutRing M)) (cycle : List ℕ) → AreCyclesCut ds cycles 0 (length cycles) rings → drop n rings ≡ ring ∷ rest → get_or cycles n [] ≡ cycle → IsCycleCut ds cycle ring
cut_at {M} ds cycles rings n ring rest cycle cut e same = let t = taken_next rings n ring rest e in
    let P : List ℕ → Type 0 = λ c. IsCycleCut ds c ring in subst P same
    (let Q : CutRing M → Type 0 = IsCycleCut ds (get_or cycles n []) in subst Q t.1
    (let R : ℕ → Type 0 = λ j. IsCycleCut ds (get_or cycles j []) (get_or rings n ring) in subst R (omega arith) (cut.each n ring t.0)))

pub cycle_inside : {M : Type 0} (ds : List DirectedEdge) (cycles : List (List ℕ)) (rings : List (CutRing M)) (n : ℕ) (ring : CutRing M) (rest : List (CutRing M)) → AreCyclesCut ds cycles 0 (length cycles) rings → drop n rings ≡ ring ∷ rest → n < length cycles
cycle_inside ds cycles rings n ring rest cut e = let t = (taken_next rings n ring rest e).0 in let r = cut.reaches in omega (arith, t, r)

pub all_taken : {M : Type 0} (ds : List DirectedEdge) (cycles : List (List ℕ)) (rings rest : List (CutRing M)) (n : ℕ) → AreCyclesCut ds cycles 0 (length cycles) rings → drop n rings ≡ rest → length rest ≡ 0 → length cycles ≤ n
all_taken ds cycles rings rest n cut e z = let r = cut.reaches in let l = length-drop n rings in let s = ap length e in omega (arith, r, l, s, z)

-- ---- the first point of a ring is that of its cycle
pub first_point : (ds : List DirectedEdge) (ring cycle : List ℕ) → ring_of ds ring ≡ ring_of ds cycle → 0 < length ring → 0 < length cycle → (edge_at ds (get_or ring 0 0)).from ≡ (edge_at ds (get_or cycle 0 0)).from
first_point ds ring cycle same h k = sym (get_or-map (λ i. (edge_at ds i).from) ring 0 0 nothing.from h) ∙ ap (λ t. get_or t 0 nothing.from) same ∙ get_or-map (λ i. (edge_at ds i).from) cycle 0 0 nothing.from k
