-- The boxes of lines.
use Rattle.std.specs.Prelude.{List, map}
use Rattle.geom.specs.declared.edge.Edge.{Edge}
use Rattle.geom.specs.Box.{least_corner, greatest_corner}
use Rattle.box_lanes.specs.Sides.{Corners}

-- the corners of the least box that has an edge
abbrev pub box_of : Edge → Corners
box_of e = (least_corner e.p e.q, greatest_corner e.p e.q)

-- the boxes of edges, in their order
abbrev pub boxes_of : List Edge → List Corners
boxes_of edges = map box_of edges
