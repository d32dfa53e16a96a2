-- The one list of polygons of directed edges (own).
use Rattle.std.specs.Prelude.{◌≡◌, ◌≢◌, ◌↔◌, Bool, pos, ◌<ℤ◌, List, ◌∷◌, AllPairs, Contains, count_by, flat_map}
use Rattle.geom.specs.declared.point.Pt.{Pt}
use Rattle.geom.specs.declared.directed.DirectedEdge.{DirectedEdge}
use Rattle.geom.specs.Determinant.{side}
use Rattle.geom.specs.Directed.{from_to}
use Rattle.geom.specs.ListOrder.{IsListBefore, IsLeastRotation}
use Rattle.geom.specs.Rings.{ring_edges, AreRings, IsCut}
use Rattle.geom.specs.Holes.{IsLeastVertex, IsShell, IsOwner}

-- a polygon as it is written
pub record Shape : Type 0 where
  pub shell : List Pt
  pub holes : List (List Pt)

-- The first piece of a ring has the edge that arrives at the ring's least vertex with the greatest angle.
pub record IsFirstPiece (ring piece : List Pt) : Type 0 where
  pub from : Pt
  pub at : Pt
  pub least : IsLeastVertex ring at
  pub arrives : Contains (ring_edges piece) (from_to from at)
  pub greatest : (u : Pt) → Contains (ring_edges ring) (from_to u at) → u ≢ from → pos 0 <ℤ side at u from

-- a piece of one of the rings that the shell owns, written from its least rotation
pub record IsPieceOf (directed : List DirectedEdge) (rings : List (List Pt)) (shell written : List Pt) : Type 0 where
  pub ring : List Pt
  pub owner : IsOwner directed rings ring shell
  pub pieces : List (List Pt)
  pub cut : IsCut ring pieces
  pub piece : List Pt
  pub one : Contains pieces piece
  pub least : IsLeastRotation piece written

-- The polygon of a shell: its first piece, then in order the other pieces of the rings that it owns.
pub record IsPolygon (directed : List DirectedEdge) (rings : List (List Pt)) (shell : List Pt) (polygon : Shape) : Type 0 where
  pub pieces : List (List Pt)
  pub cut : IsCut shell pieces
  pub piece : List Pt
  pub one : Contains pieces piece
  pub first : IsFirstPiece shell piece
  pub least : IsLeastRotation piece polygon.shell
  pub ascending : AllPairs IsListBefore polygon.holes
  pub holes : (written : List Pt) → Contains polygon.holes written ↔ (IsPieceOf directed rings shell written × (written ≢ polygon.shell))

pub record IsShellsPolygon (directed : List DirectedEdge) (rings : List (List Pt)) (polygon : Shape) : Type 0 where
  pub ring : List Pt
  pub inside : Contains rings ring
  pub is_shell : IsShell ring
  pub polygon_of : IsPolygon directed rings ring polygon

-- the polygons of all shells, in the order of their first pieces
pub record ArePolygons (directed : List DirectedEdge) (polygons : List Shape) : Type 0 where
  pub rings : List (List Pt)
  pub are_rings : AreRings directed rings
  pub ascending : AllPairs (λ p q. IsListBefore p.shell q.shell) polygons
  pub only : (polygon : Shape) → Contains polygons polygon → IsShellsPolygon directed rings polygon
  pub each : (ring : List Pt) → Contains rings ring → IsShell ring → (polygon : Shape) × Contains polygons polygon × IsPolygon directed rings ring polygon

-- the rings of a text
abbrev pub written_rings : List Shape → List (List Pt)
written_rings polygons = flat_map (λ p. p.shell ∷ p.holes) polygons

-- the rings of the text have each directed edge once: any count over their edges is that over the directed edges
abbrev pub HaveEachEdge : List DirectedEdge → List Shape → Type 0
HaveEachEdge directed polygons = (test : DirectedEdge → Bool) → count_by test (flat_map ring_edges (written_rings polygons)) ≡ count_by test directed
