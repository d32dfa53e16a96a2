-- Directed edges of a result (own).
use Rattle.std.specs.Prelude.{◌≡◌, ◌⊎◌, ◌↔◌, true, List, AllPairs, Contains}
use Rattle.geom.specs.declared.point.Pt.{Pt}
use Rattle.geom.specs.declared.op.Op.{Op}
use Rattle.geom.specs.declared.edge.Edge.{Edge}
use Rattle.geom.specs.declared.edge.Counted.{Counted}
use Rattle.geom.specs.declared.directed.DirectedEdge.{DirectedEdge}
use Rattle.geom.specs.Order.{IsBefore}
use Rattle.geom.specs.Rounded.{edges_of}
use Rattle.geom.specs.ResultEdges.{is_result_edge}

abbrev pub from_to : Pt → Pt → DirectedEdge
from_to u v = record { from = u; to = v }

-- d is less than e: by start, then by end
abbrev pub IsDirectedBefore : DirectedEdge → DirectedEdge → Type 0
IsDirectedBefore d e = IsBefore d.from e.from ⊎ ((d.from ≡ e.from) × IsBefore d.to e.to)

-- directed edges in order, none of them in both directions
pub record AreDirected (directed : List DirectedEdge) : Type 0 where
  pub ascending : AllPairs IsDirectedBefore directed
  pub one_way : (u v : Pt) → Contains directed (from_to u v) → ¬ (Contains directed (from_to v u))

-- d joins the ends of e, in one direction or the other
abbrev pub RunsAlong : DirectedEdge → Edge → Type 0
RunsAlong d e = (d ≡ from_to e.p e.q) ⊎ (d ≡ from_to e.q e.p)

-- d runs along a rounded edge and is an edge of the result
pub record IsResultEdge (op : Op) (counted : List Counted) (d : DirectedEdge) : Type 0 where
  pub edge : Edge
  pub rounded : Contains (edges_of counted) edge
  pub runs : RunsAlong d edge
  pub bounds : is_result_edge op counted d.from d.to ≡ true

-- the directed edges of the result, ascending, and no others
pub record AreResultEdges (op : Op) (counted : List Counted) (directed : List DirectedEdge) : Type 0 where
  pub ascending : AllPairs IsDirectedBefore directed
  pub exact : (d : DirectedEdge) → Contains directed d ↔ IsResultEdge op counted d
