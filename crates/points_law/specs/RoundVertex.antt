-- The edges of the result round a vertex, and at the least vertex of a hole.
use Rattle.std.specs.Prelude.{◌≡◌, true, List, Contains}
use Rattle.geom.specs.declared.op.Op.{Op}
use Rattle.geom.specs.declared.point.Pt.{Pt}
use Rattle.geom.specs.declared.edge.Counted.{Counted}
use Rattle.geom.specs.declared.directed.DirectedEdge.{DirectedEdge}
use Rattle.geom.specs.Directed.{AreResultEdges, from_to}
use Rattle.geom.specs.Rings.{IsNext, Closes, AreRings}
use Rattle.geom.specs.Holes.{IsHole, IsLeastVertex, left_of, AreGrounded}
use Rattle.geom.specs.ResultEdges.{holds_at}
use Rattle.points_law.specs.Law.{AreLayers}

-- The edges of the result close into cycles: turning clockwise round v from the start of one that arrives, the first neighbour
-- met is reached by one that leaves v, and is not that start.
abbrev pub ResultEdgesClose : Type 0
ResultEdgesClose = (op : Op) (counted : List Counted) (directed : List DirectedEdge) → AreLayers counted → AreResultEdges op counted directed → Closes directed

-- two edges that arrive at v and have the same next edge are one: so the map from edge to next edge is one to one
abbrev pub NextEdgeIsOneToOne : Type 0
NextEdgeIsOneToOne = (directed : List DirectedEdge) (t u v w : Pt) → Contains directed (from_to t v) → Contains directed (from_to u v) → IsNext directed t v w → IsNext directed u v w → t ≡ u

-- what lies just left of a hole's least vertex is in the result
abbrev pub ResultLiesLeftOfHoles : Type 0
ResultLiesLeftOfHoles = (op : Op) (counted : List Counted) (directed : List DirectedEdge) (rings : List (List Pt)) → AreLayers counted → AreResultEdges op counted directed → AreRings directed rings
    → (hole : List Pt) → Contains rings hole → IsHole hole → (v : Pt) → IsLeastVertex hole v → holds_at op counted (left_of v) ≡ true

-- below that point there is a nearest edge of the result, and it begins further left: so its ring has a lesser least vertex
abbrev pub HolesAreGrounded : Type 0
HolesAreGrounded = (op : Op) (counted : List Counted) (directed : List DirectedEdge) (rings : List (List Pt)) → AreLayers counted → AreResultEdges op counted directed → AreRings directed rings → AreGrounded directed rings
