-- Polygons that begin in one strip behind another stand in order, and each one that was found begins in a strip.
use Rattle.std.proofs.Common.{◌≡◌, ◌++◌, ◌<◌, inl, inr, ℕ, List, [], ◌∷◌, refl, sym, subst, ⊎_elim, arith, length, get_or}
use Rattle.std.specs.Prelude.{ℤ, AllPairs, Contains, flat_map}
use Rattle.std.proofs.lemmas.List.{get_or_default}
use Rattle.std.proofs.lemmas.List.Elements.{Contains-get_or}
use Rattle.std.proofs.lemmas.List.Kept.{AllPairs-cons}
use Rattle.geom.specs.declared.directed.DirectedEdge.{DirectedEdge}
use Rattle.geom.specs.declared.point.Pt.{Pt}
use Rattle.geom.specs.Canonical.{ArePolygons, Shape}
use Rattle.geom.specs.ListOrder.{IsListBefore, IsRotation}
use Rattle.geom.specs.Rings.{ring_edges}
use Rattle.geom.proofs.ListOrder.{pairs_head, pairs_tail}
use Rattle.geom.proofs.Lists.{In, contains_in, in_append, in_back, in_contains, in_front}
use Rattle.geom.proofs.Owners.{all_in}
use Rattle.geom.proofs.RingEdges.{flat_in, in_flat}
use Rattle.strips_law.specs.Strips.{strip_at}
use Rattle.strips_law.proofs.Columns.{before_by_strip, within_cuts}
use Rattle.strip_polygons.specs.Ranges.{AreByStrip, AreOfStrip, BeginsWithin, RangesHavePolygons, StripsHavePolygons}
use Rattle.strip_polygons.specs.Strips.{AreInOrder}
use Rattle.strip_polygons.proofs.RangesLaw.{all_behind}
use Rattle.strip_polygons.proofs.StripsLists.{HasShellBefore}

-- ---- lists behind one another
module _ {X : Type 0} (R : X → X → Type 0) where
  -- R holds of each of the one list and each of the other
  abbrev AllAcross : List X → List X → Type 0
  AllAcross xs ys = (x y : X) → In x xs → In y ys → R x y

  pairs_joined : (xs ys : List X) → AllPairs R xs → AllPairs R ys → AllAcross xs ys → AllPairs R (xs ++ ys)
  pairs_joined [] ys h k across = k
  pairs_joined (x ∷ xs) ys h k across = AllPairs-cons R x (xs ++ ys)
      (all_in (R x) (xs ++ ys) (λ y i. ⊎_elim (λ (j : In y xs). pairs_head R x xs h y j) (λ (j : In y ys). across x y (inl refl) j)
      (in_append xs ys y i)))
      (pairs_joined xs ys (pairs_tail R x xs h) k (λ y z i. across y z (inr i)))

  -- lists behind one another ascend where each of them does, and each one to all that come later
  pairs_flat : (lists : List (List X)) → ((xs : List X) → In xs lists → AllPairs R xs) → AllPairs AllAcross lists
      → AllPairs R (flat_map (λ xs. xs) lists)
  pairs_flat [] h k = λ i j d l m. absurd (omega arith)
  pairs_flat (xs ∷ lists) h k = pairs_joined xs (flat_map (λ ys. ys) lists) (h xs (inl refl))
      (pairs_flat lists (λ ys i. h ys (inr i)) (pairs_tail AllAcross xs lists k))
      (λ x y i j. let f = flat_in (λ (ys : List X). ys) lists y j in pairs_head AllAcross xs lists k f.0 f.1 x y i f.2)

-- ---- first vertices
some_first : (ps : List Pt) (p : Pt) → In p ps → (v : Pt) × (rest : List Pt) × (ps ≡ v ∷ rest)
some_first [] p i = absurd i
some_first (q ∷ qs) p i = (q, qs, refl)

in_turned : (ring turned : List Pt) (p : Pt) → IsRotation ring turned → In p ring → In p turned
in_turned ring turned p r i = subst (In p) (sym r.is)
    (⊎_elim (λ (j : In p r.front). in_back r.back r.front p j) (λ (j : In p r.back). in_front r.back r.front p j)
    (in_append r.front r.back p (subst (In p) r.was i)))

-- a ring with an edge, begun at whatever place, has a first vertex
turned_first : (ring turned : List Pt) (d : DirectedEdge) → IsRotation ring turned → In d (ring_edges ring)
    → (v : Pt) × (rest : List Pt) × (turned ≡ v ∷ rest)
turned_first [] turned d r i = absurd i
turned_first (p ∷ ps) turned d r i = some_first turned p (in_turned (p ∷ ps) turned p r (inl refl))

-- the shell of a polygon has a first vertex
shells_begin : (closed : List DirectedEdge) (found : List Shape) → ArePolygons closed found → (p : Shape) → Contains found p
    → (v : Pt) × (rest : List Pt) × (p.shell ≡ v ∷ rest)
shells_begin closed found are p i =
    let o = (are.only p i).polygon_of in
    turned_first o.piece p.shell _ o.least.rotation (contains_in (ring_edges o.piece) _ o.first.arrives)

-- ---- by strips
module _ (cuts : List ℤ) (found : List Shape) (written : List (List Shape)) (by_strip : AreByStrip cuts found written) where
  at_strip : (strip : ℕ) (d : List Shape) → strip < length written → AreOfStrip cuts found strip (get_or written strip d)
  at_strip strip d l = subst (AreOfStrip cuts found strip) (get_or_default written strip [] d l) (by_strip.each strip l)

  of_strip : (ps : List Shape) → In ps written → (strip : ℕ) × AreOfStrip cuts found strip ps
  of_strip ps i = at (in_contains written ps i)
    where
      at : Contains written ps → (strip : ℕ) × AreOfStrip cuts found strip ps
      at (k, l, e) = (k, subst (AreOfStrip cuts found k) e (at_strip k ps l))

  -- what begins in an earlier strip goes before
  earlier : (i j : ℕ) (p q : Shape) → i < j → BeginsWithin cuts i p → BeginsWithin cuts j q → HasShellBefore p q
  earlier i j p q l b c =
      let first = b.lies in
      let second = c.lies in
      subst (λ (r : List Pt). IsListBefore r q.shell) (sym b.shell) (subst (IsListBefore (b.vertex ∷ b.rest)) (sym c.shell)
      (inl (before_by_strip cuts b.vertex c.vertex (omega arith))))

  written_ascends : AllPairs HasShellBefore (flat_map (λ ps. ps) written)
  written_ascends = pairs_flat HasShellBefore written (λ ps i. (of_strip ps i).1.ascending) (λ i j d l m p q a b.
      let first = at_strip i d (omega arith) in
      let second = at_strip j d m in
      earlier i j p q l ((first.exact p).0 (in_contains (get_or written i d) p a)).1 ((second.exact q).0 (in_contains (get_or written j d) q b)).1)

  written_is_found : (p : Shape) → Contains (flat_map (λ ps. ps) written) p → Contains found p
  written_is_found p i =
      let f = flat_in (λ (ps : List Shape). ps) written p (contains_in (flat_map (λ ps. ps) written) p i) in
      (((of_strip f.0 f.1).1.exact p).0 (in_contains f.0 p f.2)).0

  found_is_written : (p : Shape) → Contains found p → (v : Pt) × (rest : List Pt) × (p.shell ≡ v ∷ rest)
      → Contains (flat_map (λ ps. ps) written) p
  found_is_written p i (v, rest, e) =
      let strip = strip_at cuts v in
      let within : strip < length written = omega (arith, within_cuts cuts v, by_strip.strips) in
      let here = ((by_strip.each strip within).exact p).1 (i, record { vertex = v; rest = rest; shell = e; lies = refl }) in
      in_contains (flat_map (λ ps. ps) written) p (in_flat (λ (ps : List Shape). ps) written (get_or written strip []) p
      (contains_in written (get_or written strip []) (Contains-get_or written strip [] within)) (contains_in (get_or written strip []) p here))

  written_in_order : ((p : Shape) → Contains found p → (v : Pt) × (rest : List Pt) × (p.shell ≡ v ∷ rest))
      → AreInOrder found (flat_map (λ ps. ps) written)
  written_in_order begins = record {
    ascending = written_ascends;
    exact = λ p. (written_is_found p, λ i. found_is_written p i (begins p i));
  }

-- so they are the polygons of all strips
pub strips_together : RangesHavePolygons → StripsHavePolygons
strips_together have cuts directed open_ones found written bounds told by_strip =
    have cuts directed open_ones found (flat_map (λ ps. ps) written) bounds told (written_in_order cuts found written by_strip begins)
  where
    begins : (p : Shape) → Contains found p → (v : Pt) × (rest : List Pt) × (p.shell ≡ v ∷ rest)
    begins p i =
        let c = (all_behind cuts directed open_ones found bounds told).each p i in
        shells_begin c.0 c.1 c.2 p c.3
