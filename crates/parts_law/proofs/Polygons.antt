-- The polygons of two parts of directed edges that are apart are the polygons of both together.
use Rattle.std.proofs.Common.{inl, inr, List, [], ⊎_elim}
use Rattle.std.specs.Prelude.{Contains}
use Rattle.geom.specs.declared.point.Pt.{Pt}
use Rattle.geom.specs.declared.directed.DirectedEdge.{DirectedEdge}
use Rattle.geom.specs.Directed.{from_to}
use Rattle.geom.specs.Rings.{AreRings, ring_edges}
use Rattle.geom.specs.Holes.{left_of, IsHole, IsLeastVertex, IsNearestBelow, IsOwner}
use Rattle.geom.specs.Holes.IsOwner.{itself, below}
use Rattle.geom.specs.Canonical.{Shape, IsPieceOf, IsPolygon, IsShellsPolygon, ArePolygons}
use Rattle.geom.proofs.Lists.{contains_in}
use Rattle.parts_law.specs.Apart.{AreApart}
use Rattle.parts_law.specs.Bounds.{AreBounds}
use Rattle.parts_law.specs.Law.{AreTogether}
use Rattle.parts_law.proofs.Bounds.{nearest_of_part, part_is_bounds}
use Rattle.parts_law.proofs.HoleCorners.{edge_of_ring, hole_corner}
use Rattle.parts_law.proofs.NearestBelow.{nearest_in_part}
use Rattle.parts_law.proofs.Parts.{among, comes_in_part, others_are_apart}
use Rattle.parts_law.proofs.Rings.{AreRingsOfBoth, rings_of_both}

-- ---- one part, whose rings are those of all that have an edge of it
module _ (directed these others : List DirectedEdge) (bounds : AreBounds directed) (apart : AreApart directed these others)
    (rings all : List (List Pt)) (are : AreRings these rings) (are_all : AreRings directed all)
    (within : (ring : List Pt) → Contains rings ring → Contains all ring)
    (only : (ring : List Pt) → Contains all ring → (d : DirectedEdge) → Contains (ring_edges ring) d → Contains these d → Contains rings ring) where
  owner_of_part : {ring shell : List Pt} → IsOwner these rings ring shell → IsOwner directed all ring shell
  owner_of_part (itself i k) = itself (within _ i) k
  owner_of_part (below {hole = hole} v d ring i h l n j e o) =
      let c = hole_corner these (part_is_bounds directed these others bounds apart).closes rings are hole i h v l in
      below v d ring (within hole i) h l (nearest_of_part directed these others bounds apart c.u v c.w c.is d n) (within ring j) e (owner_of_part o)

  -- where the edge below a hole is in a ring of the part, the hole is one of its rings
  hole_in_part : (hole shell : List Pt) (v : Pt) (d : DirectedEdge) (ring : List Pt) → Contains all hole → IsHole hole → IsLeastVertex hole v
      → IsNearestBelow directed (left_of v) d → Contains (ring_edges ring) d
      → Contains rings ring × IsOwner these rings ring shell → Contains rings hole × IsOwner these rings hole shell
  hole_in_part hole shell v d ring i h l n e m =
      let c = hole_corner directed bounds.closes all are_all hole i h v l in
      let j = edge_of_ring these rings are ring m.0 d e in
      let comes = comes_in_part directed these others apart c.u v c.w ((apart.holes c.u v c.w c.is d n).1 j) c.is.comes in
      let k = only hole i (from_to c.u v) c.on comes in
      (k, below v d ring k h l (nearest_in_part directed these (among directed these others apart.are_others) (left_of v) d j n) m.0 e m.1)

  owner_in_part : {ring shell : List Pt} → IsOwner directed all ring shell → Contains rings shell
      → Contains rings ring × IsOwner these rings ring shell
  owner_in_part (itself i k) s = (s, itself s k)
  owner_in_part (below {hole = hole} {shell = shell} v d ring i h l n j e o) s = hole_in_part hole shell v d ring i h l n e (owner_in_part o s)

  piece_of_part : (shell written : List Pt) → IsPieceOf these rings shell written → IsPieceOf directed all shell written
  piece_of_part shell written p = record {
    ring = p.ring;
    owner = owner_of_part p.owner;
    pieces = p.pieces;
    cut = p.cut;
    piece = p.piece;
    one = p.one;
    least = p.least;
  }

  piece_in_part : (shell written : List Pt) → Contains rings shell → IsPieceOf directed all shell written → IsPieceOf these rings shell written
  piece_in_part shell written i p = record {
    ring = p.ring;
    owner = (owner_in_part p.owner i).1;
    pieces = p.pieces;
    cut = p.cut;
    piece = p.piece;
    one = p.one;
    least = p.least;
  }

  -- polygons of the part are polygons of all
  polygon_of_part : (shell : List Pt) (polygon : Shape) → Contains rings shell → IsPolygon these rings shell polygon
      → IsPolygon directed all shell polygon
  polygon_of_part shell polygon i p = record {
    pieces = p.pieces;
    cut = p.cut;
    piece = p.piece;
    one = p.one;
    first = p.first;
    least = p.least;
    ascending = p.ascending;
    holes = λ written. (
      (λ j. let h = (p.holes written).0 j in (piece_of_part shell written h.0, h.1)),
      (λ h. (p.holes written).1 (piece_in_part shell written i h.0, h.1)),
    );
  }

  shells_polygon_of_part : (polygon : Shape) → IsShellsPolygon these rings polygon → IsShellsPolygon directed all polygon
  shells_polygon_of_part polygon s = record {
    ring = s.ring;
    inside = within s.ring s.inside;
    is_shell = s.is_shell;
    polygon_of = polygon_of_part s.ring polygon s.inside s.polygon_of;
  }

-- ---- no ring is empty, since its polygon has a first piece at its least vertex
none_empty : (directed : List DirectedEdge) (polygons : List Shape) (are : ArePolygons directed polygons) → ¬ (Contains are.rings [])
none_empty directed polygons are i = let m = are.each [] i (λ h. contains_in [] h.at h.on) in contains_in [] m.2.first.at m.2.first.least.on

-- ---- both parts
pub polygons_together : (directed these others : List DirectedEdge) → AreBounds directed → AreApart directed these others
    → (first second all : List Shape) → ArePolygons these first → ArePolygons others second → AreTogether first second all
    → ArePolygons directed all
polygons_together directed these others bounds apart first second all a b together = record {
  rings = rings;
  are_rings = r.are_rings;
  ascending = together.ascending;
  only = λ p i. ⊎_elim
      (λ j. shells_polygon_of_part directed these others bounds apart a.rings rings a.are_rings r.are_rings a_within a_only p (a.only p j))
      (λ j. shells_polygon_of_part directed others these bounds turned b.rings rings b.are_rings r.are_rings b_within b_only p (b.only p j))
      ((together.exact p).0 i);
  each = λ ring i s. ⊎_elim
      (λ j. let m = a.each ring j s in (m.0, (together.exact m.0).1 (inl m.1), a_polygon ring m.0 j m.2))
      (λ j. let m = b.each ring j s in (m.0, (together.exact m.0).1 (inr m.1), b_polygon ring m.0 j m.2))
      ((r.each ring).0 i);
}
  where
    both : (rings : List (List Pt)) × AreRingsOfBoth directed a.rings b.rings rings
    both = rings_of_both directed these others bounds apart a.rings b.rings a.are_rings b.are_rings (none_empty these first a)

    rings : List (List Pt)
    rings = both.0

    r : AreRingsOfBoth directed a.rings b.rings rings
    r = both.1

    turned : AreApart directed others these
    turned = others_are_apart directed these others apart

    a_within : (ring : List Pt) → Contains a.rings ring → Contains rings ring
    a_within ring i = (r.each ring).1 (inl i)

    b_within : (ring : List Pt) → Contains b.rings ring → Contains rings ring
    b_within ring i = (r.each ring).1 (inr i)

    a_only : (ring : List Pt) → Contains rings ring → (d : DirectedEdge) → Contains (ring_edges ring) d → Contains these d → Contains a.rings ring
    a_only ring i d e k = ⊎_elim (λ j. j) (λ j. absurd (apart.are_others.not_both d k (edge_of_ring others b.rings b.are_rings ring j d e)))
        ((r.each ring).0 i)

    b_only : (ring : List Pt) → Contains rings ring → (d : DirectedEdge) → Contains (ring_edges ring) d → Contains others d → Contains b.rings ring
    b_only ring i d e k = ⊎_elim (λ j. absurd (apart.are_others.not_both d (edge_of_ring these a.rings a.are_rings ring j d e) k)) (λ j. j)
        ((r.each ring).0 i)

    a_polygon : (shell : List Pt) (polygon : Shape) → Contains a.rings shell → IsPolygon these a.rings shell polygon
        → IsPolygon directed rings shell polygon
    a_polygon = polygon_of_part directed these others bounds apart a.rings rings a.are_rings r.are_rings a_within a_only

    b_polygon : (shell : List Pt) (polygon : Shape) → Contains b.rings shell → IsPolygon others b.rings shell polygon
        → IsPolygon directed rings shell polygon
    b_polygon = polygon_of_part directed others these bounds turned b.rings rings b.are_rings r.are_rings b_within b_only
