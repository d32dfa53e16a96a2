-- The directed edges of a result along the edges of a strip of columns (own).
use Rattle.std.specs.Prelude.{◌≡◌, ◌↔◌, ◌<◌, ◌≤◌, ◌≤ℤ◌, ◌&&◌, ℕ, ℤ, true, Bool, List, AllPairs, Contains, flat_map, int_le}
use Rattle.std.specs.List.{AllZip}
use Rattle.geom.specs.declared.op.Op.{Op}
use Rattle.geom.specs.declared.point.Pt.{Pt}
use Rattle.geom.specs.declared.edge.Edge.{Edge}
use Rattle.geom.specs.declared.edge.Counted.{Counted}
use Rattle.geom.specs.declared.directed.DirectedEdge.{DirectedEdge}
use Rattle.geom.specs.Directed.{AreResultEdges, IsDirectedBefore, RunsAlong}
use Rattle.geom.specs.EdgeOrder.{IsEdgeBefore}
use Rattle.geom.specs.ResultEdges.{is_result_edge}
use Rattle.geom.specs.Rounded.{edges_of}
use Rattle.points_law.specs.Law.{AreLayers}

-- the edges of layers, where each column has a strip, from left to right, that begin in one of the strips, and those that come into it
pub record AreStripEdges (counted crossing own : List Counted) : Type 0 where
  pub layers : AreLayers counted
  pub strip_of : ℤ → ℕ
  pub rises : (x y : ℤ) → x ≤ℤ y → strip_of x ≤ strip_of y
  pub strip : ℕ
  pub own_ascends : AllPairs (λ c d. IsEdgeBefore c.edge d.edge) own
  pub own_is : (c : Counted) → Contains own c ↔ (Contains counted c × (strip_of c.edge.p.x ≡ strip))
  pub crossing_ascends : AllPairs (λ c d. IsEdgeBefore c.edge d.edge) crossing
  pub crossing_is : (c : Counted) → Contains crossing c ↔ (Contains counted c × (strip_of c.edge.p.x < strip) × (strip ≤ strip_of c.edge.q.x))

-- the test whether v lies in one of the columns from x to y
abbrev pub lies_in : ℤ → ℤ → Pt → Bool
lies_in x y v = int_le x v.x && int_le v.x y

-- d runs along one of the edges `own` and is an edge of the result
pub record IsResultEdgeAlong (op : Op) (counted own : List Counted) (d : DirectedEdge) : Type 0 where
  pub edge : Edge
  pub inside : Contains (edges_of own) edge
  pub runs : RunsAlong d edge
  pub bounds : is_result_edge op counted d.from d.to ≡ true

-- the directed edges of the result along the edges `own`, ascending, and no others
pub record AreResultEdgesAlong (op : Op) (counted own : List Counted) (directed : List DirectedEdge) : Type 0 where
  pub ascending : AllPairs IsDirectedBefore directed
  pub exact : (d : DirectedEdge) → Contains directed d ↔ IsResultEdgeAlong op counted own d

-- Where edges stand in lists, as those of strips do, and each list has the directed edges of the result along it, all of them together, in
-- order, are the result's.
abbrev pub StripsMakeResult : Type 0
StripsMakeResult = (op : Op) (counted : List Counted) (owns : List (List Counted)) (lists : List (List DirectedEdge))
    → ((c : Counted) → Contains counted c ↔ Contains (flat_map (λ own. own) owns) c) → AllZip (AreResultEdgesAlong op counted) owns lists
    → (directed : List DirectedEdge) → AllPairs IsDirectedBefore directed → ((d : DirectedEdge) → Contains directed d ↔ Contains (flat_map (λ list. list) lists) d)
    → AreResultEdges op counted directed
