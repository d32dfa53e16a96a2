-- Each directed edge is in one ring, and in one of its pieces; so a ring's least vertex and its first piece are one.
use Rattle.std.proofs.Common.{◌≡◌, inl, inr, Bool, true, List, [], ◌∷◌, ◌++◌, refl, sym, ◌∙◌, subst, arith}
use Rattle.std.specs.Prelude.{◌≢◌, ◌&&◌, Decides, AllPairs, Contains, flat_map, IsPermutation}
use Rattle.std.proofs.lemmas.List.Elements.{All-contains, Contains-get_or}
use Rattle.std.proofs.lemmas.List.Kept.{AllPairs-cons}
use Rattle.std.proofs.lemmas.List.Sorted.{IsPermutation-sym}
use Rattle.std.proofs.lemmas.Map.Made.{AllPairs-from_IsDistinct, IsDistinct-from_AllPairs}
use Rattle.std.proofs.lemmas.Map.Keys.{IsDistinct-IsPermutation}
use lib.IntN.{ℤ, pos, ◌-ℤ◌, ◌*ℤ◌, neg_ℤ}
use lib.Signed.{◌<ℤ◌}
use Rattle.std.specs.Bool.{one_answer}
use borrow.Author.Differences.{ints}
use Rattle.geom.specs.declared.point.Pt.{Pt}
use Rattle.geom.specs.declared.directed.DirectedEdge.{DirectedEdge}
use Rattle.geom.specs.Order.{IsBefore}
use Rattle.geom.specs.Determinant.{side}
use Rattle.geom.specs.Segments.{same_point}
use Rattle.geom.specs.Directed.{from_to, IsDirectedBefore, AreDirected}
use Rattle.geom.specs.ListOrder.{IsRotation, IsLeastRotation}
use Rattle.geom.specs.Rings.{ring_edges, AreRings, IsCut, IsSimple}
use Rattle.geom.specs.Holes.{IsLeastVertex}
use Rattle.geom.specs.Canonical.{IsFirstPiece}
use Rattle.geom.proofs.Edges.{PtOrder, pt_order}
use Rattle.geom.proofs.Edges.PtOrder.{before, equal, after}
use Rattle.geom.proofs.Integers.{expand, linear}
use Rattle.geom.proofs.Lists.{In, Distinct, contains_in, in_contains}
use Rattle.geom.proofs.Orders.{before_itself, directed_before_itself}
use Rattle.geom.proofs.Points.{and_both, both_and, same_point_true, same_point_refl}
use Rattle.geom.proofs.OneCut.{simple_distinct, one_cut}
use Rattle.geom.proofs.RingEdges.{rotated_edges, cut_edges, in_permutation, in_flat, piece_edge}

-- ---- the least vertex
neither : (v w : Pt) → ¬ (IsBefore v w) → ¬ (IsBefore w v) → PtOrder v w → v ≡ w
neither v w n m (before h) = absurd (n h)
neither v w n m (equal e) = e
neither v w n m (after h) = absurd (m h)

pub one_least_vertex : (ring : List Pt) (v w : Pt) → IsLeastVertex ring v → IsLeastVertex ring w → v ≡ w
one_least_vertex ring v w h k = neither v w (All-contains (λ p. ¬ (IsBefore p w)) ring v k.least h.on) (All-contains (λ p. ¬ (IsBefore p v)) ring w h.least k.on) (pt_order v w)

-- ---- different directed edges stay different in another order
same_edge : DirectedEdge → DirectedEdge → Bool
same_edge d e = same_point d.from e.from && same_point d.to e.to

same_edge_decides : (d e : DirectedEdge) → Decides (same_edge d e) (d ≡ e)
unfolding same_edge
same_edge_decides d e = (
  λ h. (let b = and_both (same_point d.from e.from) (same_point d.to e.to) h in joined (same_point_true d.from e.from b.0) (same_point_true d.to e.to b.1)),
  λ q. subst (λ x. same_edge d x ≡ true) q (both_and (same_point d.from d.from) (same_point d.to d.to) (same_point_refl d.from) (same_point_refl d.to)),
)
  where
    joined : d.from ≡ e.from → d.to ≡ e.to → d ≡ e
    joined h k i = record { from = h i; to = k i }

same_edge_flips : (d e : DirectedEdge) → same_edge d e ≡ same_edge e d
same_edge_flips d e = one_answer (same_edge d e) (same_edge e d) (same_edge_decides d e) ((λ h. sym ((same_edge_decides e d).0 h)), (λ q. (same_edge_decides e d).1 (sym q)))

ascending_simple : (directed : List DirectedEdge) → AllPairs IsDirectedBefore directed → IsSimple directed
ascending_simple directed asc i j d l k e = directed_before_itself _ (subst (IsDirectedBefore _) (sym e) (asc i j d l k))

pub directed_simple : (directed : List DirectedEdge) → AreDirected directed → IsSimple directed
directed_simple directed a = ascending_simple directed a.ascending

pub simple_permutation : (xs ys : List DirectedEdge) → IsPermutation xs ys → IsSimple xs → IsSimple ys
simple_permutation xs ys p s = AllPairs-from_IsDistinct same_edge_decides ys (IsDistinct-IsPermutation same_edge same_edge_flips xs ys p (IsDistinct-from_AllPairs same_edge_decides xs s))

-- ---- where the lists of all rings have no edge twice, an edge is in one of them
distinct_front : {X : Type 0} (xs ys : List X) → Distinct (xs ++ ys) → Distinct xs
distinct_front [] ys d = tt
distinct_front {X} (x ∷ xs) ys d = ((λ i. d.0 (early xs i)), distinct_front xs ys d.1)
  where
    early : (zs : List X) → In x zs → In x (zs ++ ys)
    early [] i = absurd i
    early (z ∷ zs) (inl e) = inl e
    early (z ∷ zs) (inr i) = inr (early zs i)

distinct_back : {X : Type 0} (xs ys : List X) → Distinct (xs ++ ys) → Distinct ys
distinct_back [] ys d = d
distinct_back (x ∷ xs) ys d = distinct_back xs ys d.1

in_one : {X : Type 0} (xs ys : List X) (x : X) → Distinct (xs ++ ys) → In x xs → In x ys → ⊥
in_one [] ys x d i j = i
in_one {X} (z ∷ xs) ys x d (inl e) j = d.0 (late xs (subst (λ t. In t ys) (sym e) j))
  where
    late : (zs : List X) → In z ys → In z (zs ++ ys)
    late [] i = i
    late (w ∷ zs) i = inr (late zs i)
in_one (z ∷ xs) ys x d (inr i) j = in_one xs ys x d.1 i j

one_list : (rings : List (List Pt)) → Distinct (flat_map ring_edges rings) → (r s : List Pt) (d : DirectedEdge) → In r rings → In s rings → In d (ring_edges r) → In d (ring_edges s) → r ≡ s
one_list [] u r s d i j h k = absurd i
one_list (t ∷ rings) u r s d (inl e) (inl f) h k = sym e ∙ f
one_list (t ∷ rings) u r s d (inl e) (inr j) h k = absurd (in_one (ring_edges t) (flat_map ring_edges rings) d u (subst (λ x. In d (ring_edges x)) (sym e) h) (in_flat ring_edges rings s d j k))
one_list (t ∷ rings) u r s d (inr i) (inl f) h k = absurd (in_one (ring_edges t) (flat_map ring_edges rings) d u (subst (λ x. In d (ring_edges x)) (sym f) k) (in_flat ring_edges rings r d i h))
one_list (t ∷ rings) u r s d (inr i) (inr j) h k = one_list rings (distinct_back (ring_edges t) (flat_map ring_edges rings) u) r s d i j h k

one_among : (rings : List (List Pt)) → Distinct (flat_map ring_edges rings) → (r s : List Pt) (d : DirectedEdge) → Contains rings r → Contains rings s → Contains (ring_edges r) d → Contains (ring_edges s) d → r ≡ s
one_among rings u r s d i j h k = one_list rings u r s d (contains_in rings r i) (contains_in rings s j) (contains_in (ring_edges r) d h) (contains_in (ring_edges s) d k)

edges_of_one : (rings : List (List Pt)) (r : List Pt) → In r rings → Distinct (flat_map ring_edges rings) → Distinct (ring_edges r)
edges_of_one [] r i u = absurd i
edges_of_one (t ∷ rings) r (inl e) u = subst (λ x. Distinct (ring_edges x)) e (distinct_front (ring_edges t) (flat_map ring_edges rings) u)
edges_of_one (t ∷ rings) r (inr i) u = edges_of_one rings r i (distinct_back (ring_edges t) (flat_map ring_edges rings) u)

edges_distinct : (directed : List DirectedEdge) (rings : List (List Pt)) → AllPairs IsDirectedBefore directed → AreRings directed rings → Distinct (flat_map ring_edges rings)
edges_distinct directed rings asc r = simple_distinct (flat_map ring_edges rings) (simple_permutation directed (flat_map ring_edges rings) r.together (ascending_simple directed asc))

distinct_simple : {X : Type 0} (xs : List X) → Distinct xs → IsSimple xs
distinct_simple [] d = λ i j e l k. absurd (omega arith)
distinct_simple {X} (x ∷ xs) d = AllPairs-cons (λ (p q : X). ¬ (p ≡ q)) x xs (λ k e l q. d.0 (contains_in xs x (subst (Contains xs) (sym q) (Contains-get_or xs k e l)))) (distinct_simple xs d.1)

-- no edge is twice in a ring
pub ring_simple : (directed : List DirectedEdge) (rings : List (List Pt)) → AllPairs IsDirectedBefore directed → AreRings directed rings → (r : List Pt) → Contains rings r → IsSimple (ring_edges r)
ring_simple directed rings asc are r i = distinct_simple (ring_edges r) (edges_of_one rings r (contains_in rings r i) (edges_distinct directed rings asc are))

pub one_ring : (directed : List DirectedEdge) (rings : List (List Pt)) → AreDirected directed → AreRings directed rings → (r s : List Pt) (d : DirectedEdge)
    → Contains rings r → Contains rings s → Contains (ring_edges r) d → Contains (ring_edges s) d → r ≡ s
one_ring directed rings a are r s d = one_among rings (edges_distinct directed rings a.ascending are) r s d

piece_of : (directed : List DirectedEdge) (rings : List (List Pt)) → AllPairs IsDirectedBefore directed → AreRings directed rings → (r : List Pt) → Contains rings r
    → (pieces : List (List Pt)) → IsCut r pieces → (p q : List Pt) (d : DirectedEdge) → Contains pieces p → Contains pieces q → Contains (ring_edges p) d → Contains (ring_edges q) d → p ≡ q
piece_of directed rings asc are r i pieces c p q d = one_among pieces
    (simple_distinct (flat_map ring_edges pieces) (simple_permutation (ring_edges r) (flat_map ring_edges pieces) (cut_edges c) (ring_simple directed rings asc are r i))) p q d

pub one_piece : (directed : List DirectedEdge) (rings : List (List Pt)) → AreDirected directed → AreRings directed rings → (r : List Pt) → Contains rings r
    → (pieces : List (List Pt)) → IsCut r pieces → (p q : List Pt) (d : DirectedEdge) → Contains pieces p → Contains pieces q → Contains (ring_edges p) d → Contains (ring_edges q) d → p ≡ q
one_piece directed rings a = piece_of directed rings a.ascending

-- ---- the first piece
pub opposite : (v a b : Pt) → side v a b ≡ neg_ℤ (side v b a)
opposite v a b = over v.x v.y a.x a.y b.x b.y
  where
    over : (vx vy ax ay bx by : ℤ) → ((ax -ℤ vx) *ℤ (by -ℤ vy)) -ℤ ((ay -ℤ vy) *ℤ (bx -ℤ vx)) ≡ neg_ℤ (((bx -ℤ vx) *ℤ (ay -ℤ vy)) -ℤ ((by -ℤ vy) *ℤ (ax -ℤ vx)))
    over vx vy ax ay bx by = simp expand (omega (arith, linear))

not_both : (a b : ℤ) → a ≡ neg_ℤ b → pos 0 <ℤ a → pos 0 <ℤ b → ⊥
not_both a b h i j = omega (arith, ints)

-- two starts of edges that arrive at v, each with a greater angle than the other
one_start : (v a b : Pt) → (b ≢ a → pos 0 <ℤ side v b a) → (a ≢ b → pos 0 <ℤ side v a b) → PtOrder a b → a ≡ b
one_start v a b f g (equal e) = e
one_start v a b f g (before h) = absurd (not_both (side v b a) (side v a b) (opposite v b a) (f (λ e. before_itself a (subst (IsBefore a) e h))) (g (λ e. before_itself a (subst (IsBefore a) (sym e) h))))
one_start v a b f g (after h) = absurd (not_both (side v b a) (side v a b) (opposite v b a) (f (λ e. before_itself b (subst (IsBefore b) (sym e) h))) (g (λ e. before_itself b (subst (IsBefore b) e h))))

pub first_once : (directed : List DirectedEdge) (rings : List (List Pt)) → AllPairs IsDirectedBefore directed → AreRings directed rings → (r : List Pt) → Contains rings r
    → (pieces : List (List Pt)) → IsCut r pieces → (p q : List Pt) → Contains pieces p → Contains pieces q → IsFirstPiece r p → IsFirstPiece r q → p ≡ q
first_once directed rings asc are r i pieces c p q m n f g = piece_of directed rings asc are r i pieces c p q (from_to f.from f.at) m n f.arrives
    (subst (λ d. Contains (ring_edges q) d) (joined (sym starts) (sym ends)) g.arrives)
  where
    ends : f.at ≡ g.at
    ends = one_least_vertex r f.at g.at f.least g.least

    joined : {u v x y : Pt} → u ≡ x → v ≡ y → from_to u v ≡ from_to x y
    joined h k i = record { from = h i; to = k i }

    at_first : Contains (ring_edges q) (from_to g.from f.at)
    at_first = subst (λ (v : Pt). Contains (ring_edges q) (from_to g.from v)) (sym ends) g.arrives

    greatest_first : (u : Pt) → Contains (ring_edges r) (from_to u f.at) → u ≢ g.from → pos 0 <ℤ side f.at u g.from
    greatest_first = subst (λ (v : Pt). (u : Pt) → Contains (ring_edges r) (from_to u v) → u ≢ g.from → pos 0 <ℤ side v u g.from) (sym ends) g.greatest

    starts : f.from ≡ g.from
    starts = one_start f.at f.from g.from (λ ne. f.greatest g.from (piece_edge r pieces c q n (from_to g.from f.at) at_first) ne)
        (λ ne. greatest_first f.from (piece_edge r pieces c p m (from_to f.from f.at) f.arrives) ne) (pt_order f.from g.from)

pub one_first : (directed : List DirectedEdge) (rings : List (List Pt)) → AreDirected directed → AreRings directed rings → (r : List Pt) → Contains rings r
    → (pieces : List (List Pt)) → IsCut r pieces → (p q : List Pt) → Contains pieces p → Contains pieces q → IsFirstPiece r p → IsFirstPiece r q → p ≡ q
one_first directed rings a = first_once directed rings a.ascending

-- ---- written pieces
pub some_edge : (ring : List Pt) → ¬ (ring ≡ []) → (d : DirectedEdge) × In d (ring_edges ring)
some_edge [] n = absurd (n refl)
some_edge (x ∷ []) n = (from_to x x, inl refl)
some_edge (x ∷ y ∷ ys) n = (from_to x y, inl refl)

pub same_piece : (directed : List DirectedEdge) (rings : List (List Pt)) → AreDirected directed → AreRings directed rings → (r s : List Pt) → Contains rings r → Contains rings s
    → (ps qs : List (List Pt)) → IsCut r ps → IsCut s qs → (p q w : List Pt) → Contains ps p → Contains qs q → IsLeastRotation p w → IsLeastRotation q w → ¬ (w ≡ []) → (r ≡ s) × (p ≡ q)
same_piece directed rings a are r s i j ps qs c d p q w m n h k ne = (one, one_piece directed rings a are r i ps c p q e.0 m (subst (λ (l : List (List Pt)). Contains l q) (sym cuts) n) in_p in_q)
  where
    e : (d : DirectedEdge) × In d (ring_edges w)
    e = some_edge w ne

    turned_edge : (x : List Pt) → IsRotation x w → Contains (ring_edges x) e.0
    turned_edge x t = in_contains (ring_edges x) e.0 (in_permutation (ring_edges w) (ring_edges x) e.0 (IsPermutation-sym (ring_edges x) (ring_edges w) (rotated_edges x w t)) e.1)

    in_p : Contains (ring_edges p) e.0
    in_p = turned_edge p h.rotation

    in_q : Contains (ring_edges q) e.0
    in_q = turned_edge q k.rotation

    one : r ≡ s
    one = one_ring directed rings a are r s e.0 i j (piece_edge r ps c p m e.0 in_p) (piece_edge s qs d q n e.0 in_q)

    cuts : ps ≡ qs
    cuts = one_cut c (subst (λ (x : List Pt). IsCut x qs) (sym one) d)
