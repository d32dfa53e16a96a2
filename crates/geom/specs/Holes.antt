-- Shells and holes (own), and which shell a hole belongs to.
use Rattle.std.specs.Prelude.{◌≡◌, ◌⊎◌, ◌^◌, ℤ, pos, ◌-ℤ◌, ◌*ℤ◌, ◌<ℤ◌, ◌≤ℤ◌, true, List, All, Contains}
use lib.Signed.{lt_z_yes}
use Rattle.geom.specs.declared.point.Pt.{Pt}
use Rattle.geom.specs.declared.edge.Edge.{Edge}
use Rattle.geom.specs.declared.directed.DirectedEdge.{DirectedEdge}
use Rattle.geom.specs.Pixel.{Point}
use Rattle.geom.specs.Order.{IsBefore}
use Rattle.geom.specs.Determinant.{determinant, side}
use Rattle.geom.specs.Parity.{covers}
use Rattle.geom.specs.Directed.{RunsAlong}
use Rattle.geom.specs.Rings.{ring_edges, ring_corners, Corner, AreRings}

-- v is the ring's least vertex
pub record IsLeastVertex (ring : List Pt) (v : Pt) : Type 0 where
  pub on : Contains ring v
  pub least : All (λ p. ¬ (IsBefore p v)) ring

-- a corner u, v, w at the least vertex v turns to the right: w - v lies counter-clockwise of u - v
pub record IsHole (ring : List Pt) : Type 0 where
  pub at : Corner
  pub on : Contains (ring_corners ring) at
  pub least : IsLeastVertex ring at.comes.to
  pub turns : pos 0 <ℤ side at.comes.to at.comes.from at.goes.to

abbrev pub IsShell : List Pt → Type 0
IsShell ring = ¬ (IsHole ring)

-- ---- the edge below

-- v less (1 / 2 ^ 64, 0)
abbrev pub left_of : Pt → Point
left_of v = record {
  x = (pos (2 ^ 64) *ℤ v.x) -ℤ pos 1;
  y = pos (2 ^ 64) *ℤ v.y;
  n = pos (2 ^ 64);
  positive = lt_z_yes tt;
}

-- how far z lies above the edge's line, times the edge's run and n
abbrev pub height : Edge → Point → ℤ
height e z = determinant (e.q.x -ℤ e.p.x) (e.q.y -ℤ e.p.y) (z.x -ℤ (z.n *ℤ e.p.x)) (z.y -ℤ (z.n *ℤ e.p.y))

abbrev pub run_of : Edge → ℤ
run_of e = e.q.x -ℤ e.p.x

-- the edge e, in one direction or the other, is among the directed edges and lies below z
pub record LiesBelow (directed : List DirectedEdge) (z : Point) (e : Edge) : Type 0 where
  pub edge : DirectedEdge
  pub inside : Contains directed edge
  pub runs : RunsAlong edge e
  pub over : covers e z ≡ true
  pub below : pos 0 <ℤ height e z

-- d lies below z, and none that does is nearer
pub record IsNearestBelow (directed : List DirectedEdge) (z : Point) (d : DirectedEdge) : Type 0 where
  pub inside : Contains directed d
  pub edge : Edge
  pub runs : RunsAlong d edge
  pub below : LiesBelow directed z edge
  pub nearest : (f : Edge) → LiesBelow directed z f → (height edge z *ℤ run_of f) ≤ℤ (height f z *ℤ run_of edge)

-- ---- owners

-- a shell owns itself; a hole's owner is that of the ring of the nearest edge below its least vertex v less (1 / 2 ^ 64, 0)
pub data IsOwner (directed : List DirectedEdge) (rings : List (List Pt)) : List Pt → List Pt → Type 0 where
  itself : {ring : List Pt} → Contains rings ring → IsShell ring → IsOwner directed rings ring ring
  below : {hole shell : List Pt} (v : Pt) (d : DirectedEdge) (ring : List Pt) → Contains rings hole → IsHole hole → IsLeastVertex hole v → IsNearestBelow directed (left_of v) d → Contains rings ring → Contains (ring_edges ring) d → IsOwner directed rings ring shell → IsOwner directed rings hole shell

-- below the point just left of each hole's least vertex there is a nearest edge, and it begins further left
abbrev pub AreGrounded : List DirectedEdge → List (List Pt) → Type 0
AreGrounded directed rings = (hole : List Pt) → Contains rings hole → IsHole hole → (v : Pt) → IsLeastVertex hole v
    → (d : DirectedEdge) × IsNearestBelow directed (left_of v) d × (IsBefore d.from v ⊎ IsBefore d.to v)

-- and so it is of all rings of the directed edges
abbrev pub HasGroundedRings : List DirectedEdge → Type 0
HasGroundedRings directed = (rings : List (List Pt)) → AreRings directed rings → AreGrounded directed rings
