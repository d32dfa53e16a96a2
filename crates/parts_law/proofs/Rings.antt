-- The rings of two parts of directed edges that are apart are the rings of both together.
use Rattle.std.proofs.Common.{◌≡◌, ◌⊎◌, ◌↔◌, inl, inr, List, [], ◌∷◌, ◌++◌, sym, ◌∙◌, subst, ⊎_elim, map-id}
use Rattle.std.specs.Prelude.{All, Contains, flat_map, IsPermutation}
use Rattle.std.proofs.lemmas.List.Concat.{flat_map_single}
use Rattle.std.proofs.lemmas.List.Elements.{All-contains}
use Rattle.std.proofs.lemmas.List.Sorted.{IsPermutation-append, IsPermutation-sym, IsPermutation-trans}
use Rattle.geom.specs.declared.point.Pt.{Pt}
use Rattle.geom.specs.declared.directed.DirectedEdge.{DirectedEdge}
use Rattle.geom.specs.Directed.{IsDirectedBefore}
use Rattle.geom.specs.ListOrder.{IsListBefore, IsLeastRotation}
use Rattle.geom.specs.Rings.{AreRings, Follows, ring_corners, ring_edges}
use Rattle.geom.proofs.Edges.{PtOrder, pt_order}
use Rattle.geom.proofs.Edges.PtOrder.{before, equal, after}
use Rattle.geom.proofs.Lists.{in_contains}
use Rattle.geom.proofs.ListOrder.{list_before_itself, list_before_trans, list_order, same_ascending}
use Rattle.geom.proofs.OneRing.{some_edge}
use Rattle.geom.proofs.Orders.{directed_before_itself, directed_before_trans}
use Rattle.geom.proofs.Owners.{all_in}
use Rattle.parts_law.specs.Apart.{AreApart}
use Rattle.parts_law.specs.Bounds.{AreBounds}
use Rattle.parts_law.proofs.HoleCorners.{comes_on, edge_of_ring}
use Rattle.parts_law.proofs.Merged.{Merged, merged}
use Rattle.parts_law.proofs.Parts.{next_of_part, others_are_apart}

-- ---- the order of directed edges is total
directed_order : (d e : DirectedEdge) → (d ≡ e) ⊎ (IsDirectedBefore d e ⊎ IsDirectedBefore e d)
directed_order d e = by_ends (pt_order d.from e.from) (pt_order d.to e.to)
  where
    joined : d.from ≡ e.from → d.to ≡ e.to → d ≡ e
    joined h k i = record { from = h i; to = k i }

    by_ends : PtOrder d.from e.from → PtOrder d.to e.to → (d ≡ e) ⊎ (IsDirectedBefore d e ⊎ IsDirectedBefore e d)
    by_ends (before h) o = inr (inl (inl h))
    by_ends (after h) o = inr (inr (inl h))
    by_ends (equal h) (before k) = inr (inl (inr (h, k)))
    by_ends (equal h) (after k) = inr (inr (inr (sym h, k)))
    by_ends (equal h) (equal k) = inl (joined h k)

singles : {X : Type 0} (xs : List X) → flat_map (λ x. x ∷ []) xs ≡ xs
singles xs = flat_map_single (λ x. x) xs ∙ map-id xs

-- ---- rings of one part follow the rule for all edges
follow_of_part : (directed these others : List DirectedEdge) → AreApart directed these others → (rings : List (List Pt)) → AreRings these rings
    → (ring : List Pt) → Contains rings ring → All (Follows directed) (ring_corners ring)
follow_of_part directed these others apart rings are ring i = all_in (Follows directed) (ring_corners ring) (λ c j.
    let k = in_contains (ring_corners ring) c j in
    next_of_part directed these others apart c.comes.from c.comes.to c.goes.to (edge_of_ring these rings are ring i c.comes (comes_on ring c k))
    (All-contains (Follows these) (ring_corners ring) c
    (All-contains (λ (ring : List Pt). All (Follows these) (ring_corners ring)) rings ring are.follow i) k))

-- ---- both parts
pub record AreRingsOfBoth (directed : List DirectedEdge) (first second all : List (List Pt)) : Type 0 where
  pub are_rings : AreRings directed all
  pub each : (ring : List Pt) → Contains all ring ↔ (Contains first ring ⊎ Contains second ring)

module _ (directed these others : List DirectedEdge) (bounds : AreBounds directed) (apart : AreApart directed these others) where
  both_are_all : IsPermutation directed (these ++ others)
  both_are_all = IsPermutation-sym (these ++ others) directed (subst (IsPermutation (these ++ others)) one_list together)
    where
      single : DirectedEdge → List DirectedEdge
      single d = d ∷ []

      m : Merged single IsDirectedBefore directed_before_itself directed_before_trans directed_order these others
      m = merged single IsDirectedBefore directed_before_itself directed_before_trans directed_order these others
          apart.ascending apart.are_others.ascending apart.are_others.not_both

      together : IsPermutation (these ++ others) m.all
      together = subst (λ t. t) (λ i. IsPermutation (singles these i ++ singles others i) (singles m.all i)) m.flat

      one_list : m.all ≡ directed
      one_list = same_ascending IsDirectedBefore directed_before_itself directed_before_trans m.all directed
          m.ascending bounds.closes.are_directed.ascending
          (λ d i. (apart.are_others.either d).1 ((m.each d).0 i)) (λ d i. (m.each d).1 ((apart.are_others.either d).0 i))

  pub rings_of_both : (first second : List (List Pt)) → AreRings these first → AreRings others second → ¬ (Contains first [])
      → (all : List (List Pt)) × AreRingsOfBoth directed first second all
  rings_of_both first second a b filled = (m.all, record { are_rings = rings; each = m.each })
    where
      no_common : (ring : List Pt) → Contains first ring → ¬ (Contains second ring)
      no_common ring i j =
          let e = some_edge ring (λ q. filled (subst (Contains first) q i)) in
          let k = in_contains (ring_edges ring) e.0 e.1 in
          apart.are_others.not_both e.0 (edge_of_ring these first a ring i e.0 k) (edge_of_ring others second b ring j e.0 k)

      m : Merged ring_edges IsListBefore list_before_itself list_before_trans list_order first second
      m = merged ring_edges IsListBefore list_before_itself list_before_trans list_order first second a.ascending b.ascending no_common

      by_part : (P : List Pt → Type 0) → ((ring : List Pt) → Contains first ring → P ring) → ((ring : List Pt) → Contains second ring → P ring)
          → All P m.all
      by_part P f g = all_in P m.all (λ ring i. ⊎_elim (f ring) (g ring) ((m.each ring).0 (in_contains m.all ring i)))

      rings : AreRings directed m.all
      rings = record {
        follow = by_part (λ ring. All (Follows directed) (ring_corners ring)) (follow_of_part directed these others apart first a)
            (follow_of_part directed others these (others_are_apart directed these others apart) second b);
        together = IsPermutation-trans _ _ _ both_are_all (IsPermutation-trans _ _ _
            (IsPermutation-append these (flat_map ring_edges first) others (flat_map ring_edges second) a.together b.together) m.flat);
        least = by_part (λ ring. IsLeastRotation ring ring) (λ ring. All-contains (λ ring. IsLeastRotation ring ring) first ring a.least)
            (λ ring. All-contains (λ ring. IsLeastRotation ring ring) second ring b.least);
        ascending = m.ascending;
      }
