-- The pieces of a ring have its edges, each once, visit no vertex twice, and have three points or more.
use Rattle.std.proofs.Common.{◌≡◌, ℕ, suc, ◌≤◌, List, [], ◌∷◌, ◌++◌, length, refl, sym, ap, inl, inr, arith}
use Rattle.std.proofs.lemmas.List.Sorted.{IsPermutation-sym, IsPermutation-trans}
use Rattle.geom.specs.declared.point.Pt.{Pt}
use Rattle.geom.specs.declared.directed.DirectedEdge.{DirectedEdge}
use Rattle.geom.specs.Directed.{from_to}
use Rattle.geom.specs.Rings.{ring_edges, IsCut}
use Rattle.geom.specs.Rings.IsCut.{whole, taken}
use Rattle.geom.proofs.Lists.{In, in_front, in_back}
use Rattle.geom.proofs.RingEdges.{same_order, around-cut, in_permutation}

-- ---- each piece has three points or more
abbrev pub OneWay : List DirectedEdge → Type 0
OneWay ds = (u v : Pt) → In (from_to u v) ds → ¬ (In (from_to v u) ds)

three : (piece : List Pt) → ¬ (piece ≡ []) → OneWay (ring_edges piece) → 3 ≤ length piece
three [] n o = absurd (n refl)
three (p ∷ []) n o = absurd (o p p (inl refl) (inl refl))
three (p ∷ q ∷ []) n o = absurd (o p q (inl refl) (inr (inl refl)))
three (p ∷ q ∷ r ∷ rest) n o = long (length rest)
  where
    long : (n : ℕ) → 3 ≤ suc (suc (suc n))
    long n = omega arith

not_nil : (front : List Pt) (v : Pt) (back : List Pt) → ¬ (front ++ v ∷ back ≡ [])
not_nil [] v back e = cc
not_nil (x ∷ front) v back e = cc

-- every member of the list, by recursion
abbrev pub Each : {X : Type 0} → (X → Type 0) → List X → Type 0
Each P [] = Unit {0}
Each P (x ∷ xs) = P x × Each P xs

pub cut_long : {ring : List Pt} {pieces : List (List Pt)} → IsCut ring pieces → ¬ (ring ≡ []) → OneWay (ring_edges ring) → Each (λ p. 3 ≤ length p) pieces
cut_long (whole {ring = r} s) n o = (three r n o, tt)
cut_long (taken {ring = r} {pieces = ps} front v mid back e s c) n o = (
  three (v ∷ mid) (λ q. cc) (λ a b i j. o a b (inside _ (in_front (ring_edges (v ∷ mid)) (ring_edges (front ++ v ∷ back)) _ i)) (inside _ (in_front (ring_edges (v ∷ mid)) (ring_edges (front ++ v ∷ back)) _ j))),
  cut_long c (not_nil front v back) (λ a b i j. o a b (inside _ (in_back (ring_edges (v ∷ mid)) (ring_edges (front ++ v ∷ back)) _ i)) (inside _ (in_back (ring_edges (v ∷ mid)) (ring_edges (front ++ v ∷ back)) _ j))),
)
  where
    inside : (d : DirectedEdge) → In d (ring_edges (v ∷ mid) ++ ring_edges (front ++ v ∷ back)) → In d (ring_edges r)
    inside d i = in_permutation _ _ d (IsPermutation-trans _ _ _ (IsPermutation-sym _ _ (around-cut from_to front v mid back)) (same_order _ _ (sym (ap ring_edges e)))) i
