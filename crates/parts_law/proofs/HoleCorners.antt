-- Edges and corners of rings of directed edges, and the corner of a hole at its least vertex.
use Rattle.std.proofs.Common.{◌≡◌, List, sym, ap, subst}
use Rattle.std.specs.Prelude.{All, Contains, flat_map}
use Rattle.std.proofs.lemmas.List.Elements.{All-contains}
use Rattle.std.proofs.lemmas.List.Sorted.{IsPermutation-sym}
use Rattle.geom.specs.declared.point.Pt.{Pt}
use Rattle.geom.specs.declared.directed.DirectedEdge.{DirectedEdge}
use Rattle.geom.specs.Order.{IsBefore}
use Rattle.geom.specs.Directed.{from_to}
use Rattle.geom.specs.Rings.{AreRings, Closes, Corner, corner, Follows, IsNext, ring_corners, ring_edges}
use Rattle.geom.specs.Holes.{IsHole, IsLeastVertex}
use Rattle.geom.proofs.Lists.{In, contains_in, in_contains}
use Rattle.geom.proofs.OneRing.{one_least_vertex}
use Rattle.geom.proofs.Owners.{starts_on, ends_on}
use Rattle.geom.proofs.RingEdges.{in_flat, in_permutation}
use Rattle.geom.proofs.SameRings.{one_next}
use Rattle.points_law.proofs.RingLists.{in_around, before_other}
use Rattle.parts_law.specs.Bounds.{IsHoleCorner}
use Rattle.parts_law.proofs.Parts.{two_ends}

-- an edge of a ring is one of the directed edges
pub edge_of_ring : (directed : List DirectedEdge) (rings : List (List Pt)) → AreRings directed rings → (ring : List Pt) → Contains rings ring
    → (d : DirectedEdge) → Contains (ring_edges ring) d → Contains directed d
edge_of_ring directed rings are ring i d j = in_contains directed d
    (in_permutation (flat_map ring_edges rings) directed d (IsPermutation-sym directed (flat_map ring_edges rings) are.together)
    (in_flat ring_edges rings ring d (contains_in rings ring i) (contains_in (ring_edges ring) d j)))

-- ---- both edges of a corner of a ring are edges of the ring
pub comes_on : (ring : List Pt) (c : Corner) → Contains (ring_corners ring) c → Contains (ring_edges ring) c.comes
comes_on ring c i = let p = in_around corner (ring_edges ring) c (contains_in (ring_corners ring) c i) in
    subst (Contains (ring_edges ring)) (ap (λ (x : Corner). x.comes) p.is) (in_contains (ring_edges ring) p.first p.first_in)

goes_on : (ring : List Pt) (c : Corner) → Contains (ring_corners ring) c → Contains (ring_edges ring) c.goes
goes_on ring c i = let p = in_around corner (ring_edges ring) c (contains_in (ring_corners ring) c i) in
    subst (Contains (ring_edges ring)) (ap (λ (x : Corner). x.goes) p.is) (in_contains (ring_edges ring) p.second p.second_in)

-- ---- the corner of a hole at its least vertex v
pub record HasHoleCorner (directed : List DirectedEdge) (hole : List Pt) (v : Pt) : Type 0 where
  pub u : Pt
  pub w : Pt
  pub is : IsHoleCorner directed u v w
  pub on : Contains (ring_edges hole) (from_to u v)

-- what comes next is reached by an edge
leaves : (directed : List DirectedEdge) → Closes directed → (u v w : Pt) → Contains directed (from_to u v) → IsNext directed u v w
    → Contains directed (from_to v w)
leaves directed closes u v w i n = let t = closes.turns u v i in
    subst (λ (x : Pt). Contains directed (from_to v x)) (one_next directed u v t.0 w t.2 n) t.1

module _ (directed : List DirectedEdge) (closes : Closes directed) (rings : List (List Pt)) (are : AreRings directed rings)
    (hole : List Pt) (inside : Contains rings hole) (h : IsHole hole) where
  abbrev at : Pt
  at = h.at.comes.to

  next : IsNext directed h.at.comes.from at h.at.goes.to
  next = All-contains (Follows directed) (ring_corners hole) h.at
      (All-contains (λ (ring : List Pt). All (Follows directed) (ring_corners ring)) rings hole are.follow inside) h.on

  comes : Contains directed (from_to h.at.comes.from at)
  comes = edge_of_ring directed rings are hole inside h.at.comes (comes_on hole h.at h.on)

  goes : Contains directed (from_to at h.at.goes.to)
  goes = leaves directed closes h.at.comes.from at h.at.goes.to comes next

  behind : (p : Pt) → In p hole → ¬ (p ≡ at) → IsBefore at p
  behind p i n = before_other at p (All-contains (λ (y : Pt). ¬ (IsBefore y at)) hole p h.least.least (in_contains hole p i)) n

  at_least : HasHoleCorner directed hole at
  at_least = record {
    u = h.at.comes.from;
    w = h.at.goes.to;
    is = record {
      comes = comes;
      goes = goes;
      next = next;
      comes_back = behind h.at.comes.from (starts_on hole h.at.comes (contains_in (ring_edges hole) h.at.comes (comes_on hole h.at h.on)))
          (two_ends directed closes.are_directed h.at.comes.from at comes);
      goes_right = behind h.at.goes.to (ends_on hole h.at.goes (contains_in (ring_edges hole) h.at.goes (goes_on hole h.at h.on)))
          (λ q. two_ends directed closes.are_directed at h.at.goes.to goes (sym q));
      turns = h.turns;
    };
    on = comes_on hole h.at h.on;
  }

  pub hole_corner : (v : Pt) → IsLeastVertex hole v → HasHoleCorner directed hole v
  hole_corner v l = subst (HasHoleCorner directed hole) (one_least_vertex hole at v h.least l) at_least
