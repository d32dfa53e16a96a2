-- The edges that change a parity (own).
use Rattle.std.specs.Prelude.{◌||◌, Bool, List, filter}
use Rattle.geom.specs.declared.op.Op.{Op}
use Rattle.geom.specs.declared.edge.Counted.{Counted}
use Rattle.geom.specs.declared.directed.DirectedEdge.{DirectedEdge}
use Rattle.geom.specs.Directed.{AreResultEdges}
use Rattle.geom.specs.Rounded.{is_odd}
use Rattle.points_law.specs.Law.{AreLayers}

-- the test whether an edge is odd in one layer at least
abbrev pub changes : Counted → Bool
changes c = is_odd c.in_a || is_odd c.in_b

-- these edges are layers too
abbrev pub ChangingAreLayers : Type 0
ChangingAreLayers = (counted : List Counted) → AreLayers counted → AreLayers (filter changes counted)

-- and their result is that of all edges
abbrev pub ChangingBound : Type 0
ChangingBound = (op : Op) (counted : List Counted) → AreLayers counted → (directed : List DirectedEdge)
    → AreResultEdges op (filter changes counted) directed → AreResultEdges op counted directed
