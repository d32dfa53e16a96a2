-- Where the rings of the edges are all shells that visit no vertex twice, they are their polygons.
use Rattle.std.proofs.Common.{◌≡◌, ◌≢◌, ℕ, ◌<◌, List, [], ◌∷◌, get_or, length, map, refl, sym, ◌∙◌, ap, subst, inl, inr, arith}
use Rattle.std.specs.Prelude.{All, AllPairs, Contains, flat_map}
use Rattle.std.proofs.lemmas.List.{get_or-map, length-map, map-id}
use Rattle.std.proofs.lemmas.List.Elements.{All-contains, All-cons, All-map, All-nil, All-weaker}
use Rattle.std.proofs.lemmas.List.Sorted.{IsPermutation-refl, IsPermutation-sym}
use Rattle.geom.specs.declared.point.Pt.{Pt}
use Rattle.geom.specs.declared.directed.DirectedEdge.{DirectedEdge}
use Rattle.geom.specs.Canonical.{ArePolygons, HaveEachEdge, IsFirstPiece, IsPieceOf, IsPolygon, IsShellsPolygon, Shape, written_rings}
use Rattle.geom.specs.Holes.{IsOwner, IsShell}
use Rattle.geom.specs.Holes.IsOwner.{itself, below}
use Rattle.geom.specs.ListOrder.{IsLeastRotation, IsListBefore}
use Rattle.geom.specs.Rings.{ring_edges, Closes, IsCut, IsSimple}
use Rattle.geom.specs.Rings.IsCut.{whole}
use Rattle.geom.proofs.Lists.{contains_in, in_contains, in_map, map_in, In}
use Rattle.geom.proofs.OneCut.{one_cut}
use Rattle.geom.proofs.OneRotation.{one_rotation}
use Rattle.geom.proofs.RingEdges.{in_flat, in_permutation}
use Rattle.polygonize.specs.LoneShells.{AreLoneShells, without_holes}
use Rattle.polygonize.specs.Next.{edge_at, ring_of, rings_of}
use Rattle.polygonize.specs.Number.{IsVertex}
use Rattle.polygonize.specs.Piece.{IsRingCut, last_point}
use Rattle.polygonize.specs.Written.{AreSimple, HaveEdges, IsCanonical, IsSound}
use Rattle.polygonize.proofs.Least.{least_rings, simple_rings}
use Rattle.polygonize.proofs.Numbers.{same_vertex}
use Rattle.polygonize.proofs.RingPieces.FirstPiece.{IsBest, first_held}
use Rattle.polygonize.proofs.RingPieces.Mapping.{simple_map}
use Rattle.polygonize.proofs.WrittenRings.Writing.{text_has_each}

one_of : {X : Type 0} (P : X → Type 0) (x : X) → P x → All P (x ∷ [])
one_of P x p = All-cons P x [] p (All-nil P)

-- what is in a list of one
only_one : {X : Type 0} (x y : X) → In y (x ∷ []) → x ≡ y
only_one x y (inl e) = e
only_one x y (inr i) = absurd i

-- where all rings are shells, each owns itself alone
owns_itself : {ds : List DirectedEdge} {rings : List (List Pt)} {ring shell : List Pt} → All IsShell rings → IsOwner ds rings ring shell → ring ≡ shell
owns_itself shells (itself i h) = refl
owns_itself {ds} {rings} shells (below {hole} v d ring i h l n k o w) = absurd (All-contains IsShell rings hole shells i h)

-- the polygons ascend as their shells do
ascend : (rings : List (List Pt)) → AllPairs IsListBefore rings → AllPairs (λ p q. IsListBefore p.shell q.shell) (map without_holes rings)
ascend rings a i j d h k = subst (λ (x : Shape × Shape). IsListBefore x.0.shell x.1.shell) (λ n. (sym (get_or-map without_holes rings i [] d first) n, sym (get_or-map without_holes rings j [] d second) n)) (a i j [] h second)
  where
    second : j < length rings
    second = let e = length-map rings without_holes in omega (arith, k, e)

    first : i < length rings
    first = let s = second in omega (arith, h, s)

-- the rings of the text
told_shells : (rings : List (List Pt)) → written_rings (map without_holes rings) ≡ rings
told_shells [] = refl
told_shells (r ∷ rs) = ap (λ t. r ∷ t) (told_shells rs)

module _ (ds : List DirectedEdge) (c : Closes ds) (found : List Shape) (s : AreLoneShells ds found) where
  abbrev rings : List (List Pt)
  rings = rings_of ds s.numbers

  canonical : (r : List ℕ) → In r s.numbers → IsCanonical ds r
  canonical r i = All-contains (IsCanonical ds) s.numbers r s.canonical (in_contains s.numbers r i)

  inside : (r : List ℕ) → In r s.numbers → Contains rings (ring_of ds r)
  inside r i = in_contains rings (ring_of ds r) (map_in (ring_of ds) s.numbers r i)

  is_shell : (r : List ℕ) → In r s.numbers → IsShell (ring_of ds r)
  is_shell r i = All-contains (λ t. IsShell (ring_of ds t)) s.numbers r s.shells (in_contains s.numbers r i)

  are_shells : All IsShell rings
  are_shells = All-map IsShell (ring_of ds) s.numbers s.shells

  -- ---- a ring is cut into itself
  simple : (r : List ℕ) → In r s.numbers → IsSimple (ring_of ds r)
  simple r i = let k = canonical r i in simple_map (IsVertex ds) (λ n. (edge_at ds n).from) (same_vertex ds) r k.sound.vertices k.sound.simple

  least : (r : List ℕ) → In r s.numbers → IsLeastRotation (ring_of ds r) (ring_of ds r)
  least r i = All-contains (λ t. IsLeastRotation t t) rings (ring_of ds r) s.are_rings.least (inside r i)

  among : (r : List ℕ) → In r s.numbers → (d : DirectedEdge) → Contains (ring_edges (ring_of ds r)) d → Contains ds d
  among r i d j = in_contains ds d (in_permutation (flat_map ring_edges rings) ds d (IsPermutation-sym _ _ s.are_rings.together)
      (in_flat ring_edges rings (ring_of ds r) d (map_in (ring_of ds) s.numbers r i) (contains_in (ring_edges (ring_of ds r)) d j)))

  best : (r : List ℕ) → IsBest ds (get_or r 0 0) (r ∷ []) 1 0
  best r cl q m h e = record {
    begins = refl;
    greater = λ n. absurd (n (ap (λ t. last_point ds (get_or (r ∷ []) t [])) (at_first m h)));
  }
    where
      at_first : (m : ℕ) → m < 1 → m ≡ 0
      at_first m h = omega arith

  is_cut : (r : List ℕ) → In r s.numbers → IsRingCut ds (get_or r 0 0) r (r ∷ [])
  is_cut r i = let k = canonical r i in record {
    some = (let l = k.sound.long in omega (arith, l));
    begins = refl;
    vertices = k.sound.vertices;
    least_first = k.least;
    among = among r i;
    cut = whole k.sound.simple;
  }

  first : (r : List ℕ) → In r s.numbers → IsFirstPiece (ring_of ds r) (ring_of ds r)
  first r i = let k = canonical r i in first_held ds (get_or r 0 0) (r ∷ []) 1 0 (one_of (IsSound ds) r k.sound) (omega arith) (omega arith) (best r) r c (is_cut r i)

  -- ---- its polygon
  no_piece : (r : List ℕ) → In r s.numbers → (written : List Pt) → IsPieceOf ds rings (ring_of ds r) written → written ≢ ring_of ds r → ⊥
  no_piece r i written p n = n (one_rotation (ring_of ds r) written (ring_of ds r) (let P : List Pt → Type 0 = λ t. IsLeastRotation t written in subst P piece_is p.least) (least r i))
    where
      ring_is : p.ring ≡ ring_of ds r
      ring_is = owns_itself are_shells p.owner

      pieces_are : p.pieces ≡ ring_of ds r ∷ []
      pieces_are = one_cut p.cut (let P : List Pt → Type 0 = λ t. IsCut t (ring_of ds r ∷ []) in subst P (sym ring_is) (whole (simple r i)))

      piece_is : p.piece ≡ ring_of ds r
      piece_is = sym (only_one (ring_of ds r) p.piece (let P : List (List Pt) → Type 0 = In p.piece in subst P pieces_are (contains_in p.pieces p.piece p.one)))

  polygon : (r : List ℕ) → In r s.numbers → IsPolygon ds rings (ring_of ds r) (without_holes (ring_of ds r))
  polygon r i = record {
    pieces = ring_of ds r ∷ [];
    cut = whole (simple r i);
    piece = ring_of ds r;
    one = in_contains (ring_of ds r ∷ []) (ring_of ds r) (inl refl);
    first = first r i;
    least = least r i;
    ascending = λ i j d h k. absurd (omega arith);
    holes = λ w. ((λ j. absurd (contains_in [] w j)), (λ p. absurd (no_piece r i w p.0 p.1)));
  }

  -- the polygons of all rings
  of_ring : (p : Shape) → In p (map without_holes rings) → IsShellsPolygon ds rings p
  of_ring p i = let m = in_map without_holes rings p i in let n = in_map (ring_of ds) s.numbers m.0 m.1 in
      subst (IsShellsPolygon ds rings) (ap without_holes n.2 ∙ m.2) (record { ring = ring_of ds n.0; inside = inside n.0 n.1; is_shell = is_shell n.0 n.1; polygon_of = polygon n.0 n.1 })

  has_polygon : (ring : List Pt) → In ring rings → IsPolygon ds rings ring (without_holes ring)
  has_polygon ring i = let n = in_map (ring_of ds) s.numbers ring i in subst (λ (t : List Pt). IsPolygon ds rings t (without_holes t)) n.2 (polygon n.0 n.1)

  pub are_polygons : ArePolygons ds found
  are_polygons = subst (ArePolygons ds) (sym s.are_polygons) (record {
    rings = rings;
    are_rings = s.are_rings;
    ascending = ascend rings s.are_rings.ascending;
    only = λ p i. of_ring p (contains_in (map without_holes rings) p i);
    each = λ r i h. (without_holes r, in_contains (map without_holes rings) (without_holes r) (map_in without_holes rings r (contains_in rings r i)), has_polygon r (contains_in rings r i));
  })

  -- ---- the text
  told : written_rings found ≡ map (λ r. ring_of ds r) s.numbers
  told = ap written_rings s.are_polygons ∙ told_shells rings

  pub has_each_edge : HaveEachEdge ds found
  has_each_edge = text_has_each (λ r. r) ds s.numbers s.numbers found (subst (HaveEdges ds) (sym (map-id s.numbers)) s.are_rings.together) (IsPermutation-refl s.numbers) told

  pub is_simple : AreSimple (written_rings found)
  is_simple = simple_rings (λ r. r) ds s.numbers found (All-weaker (IsCanonical ds) (IsSound ds) (λ r k. k.sound) s.numbers s.canonical) told

  pub is_least : All (λ r. IsLeastRotation r r) (written_rings found)
  is_least = least_rings (λ r. r) ds c.are_directed s.numbers found s.canonical told
