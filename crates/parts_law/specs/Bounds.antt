-- Directed edges that bound a part of the plane on their left (own).
use Rattle.std.specs.Prelude.{◌<ℤ◌, pos, List, Contains}
use Rattle.geom.specs.declared.point.Pt.{Pt}
use Rattle.geom.specs.declared.directed.DirectedEdge.{DirectedEdge}
use Rattle.geom.specs.Determinant.{side}
use Rattle.geom.specs.Directed.{from_to}
use Rattle.geom.specs.Order.{IsBefore}
use Rattle.geom.specs.Holes.{IsNearestBelow, left_of}
use Rattle.geom.specs.NodedEdges.{AreNodedEdges}
use Rattle.geom.specs.Rings.{Closes, IsNext}

-- d goes to the right, so that what lies on its left lies above it
abbrev pub GoesRight : DirectedEdge → Type 0
GoesRight d = IsBefore d.from d.to

-- after u to v comes v to w, u and w are behind v, and the turn is to the right: so it is at the least vertex of a hole
pub record IsHoleCorner (directed : List DirectedEdge) (u v w : Pt) : Type 0 where
  pub comes : Contains directed (from_to u v)
  pub goes : Contains directed (from_to v w)
  pub next : IsNext directed u v w
  pub comes_back : IsBefore v u
  pub goes_right : IsBefore v w
  pub turns : pos 0 <ℤ side v u w

-- d is a nearest edge below v, and goes to the right
pub record IsBoundBelow (directed : List DirectedEdge) (v : Pt) (d : DirectedEdge) : Type 0 where
  pub nearest : IsNearestBelow directed (left_of v) d
  pub goes_right : GoesRight d

-- They close and meet only at ends, and below each such corner there is a nearest edge that goes to the right.
pub record AreBounds (directed : List DirectedEdge) : Type 0 where
  pub closes : Closes directed
  pub noded : AreNodedEdges directed
  pub below : (u v w : Pt) → IsHoleCorner directed u v w → (d : DirectedEdge) × IsBoundBelow directed v d
