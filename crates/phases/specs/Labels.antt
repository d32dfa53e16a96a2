-- The edges that tell the labels of a strip (own).
use Rattle.std.specs.Prelude.{◌≡◌, ◌↔◌, ◌<◌, ◌≤◌, ℕ, ℤ, Bool, true, List, AllPairs, Contains, Some, flat_map, nat_eq, nat_lt, slice_get}
use Rattle.geom.specs.declared.op.Op.{Op}
use Rattle.geom.specs.declared.edge.Edge.{Edge}
use Rattle.geom.specs.declared.edge.Counted.{Counted}
use Rattle.geom.specs.declared.directed.DirectedEdge.{DirectedEdge}
use Rattle.geom.specs.Directed.{RunsAlong}
use Rattle.geom.specs.EdgeOrder.{IsEdgeBefore}
use Rattle.geom.specs.ResultEdges.{is_result_edge}
use Rattle.geom.specs.Rounded.{edges_of}
use Rattle.points_law.specs.Law.{AreLayers}
use Rattle.strips_law.specs.declared.line.Line.{Line}
use Rattle.strips_law.specs.Strips.{AreEdgesOf, strip_at}

-- the lesser end of the edge lies in the strip
abbrev pub begins_in : List ℤ → ℕ → Counted → Bool
begins_in cuts strip c = nat_eq (strip_at cuts c.edge.p) strip

-- its greater end lies in a later strip
abbrev pub goes_on : List ℤ → ℕ → Counted → Bool
goes_on cuts strip c = nat_lt strip (strip_at cuts c.edge.q)

-- just those of the edges whose lesser end lies in the strip, ascending
pub record AreOfStrip (cuts : List ℤ) (strip : ℕ) (counted own : List Counted) : Type 0 where
  pub ascending : AllPairs (λ c d. IsEdgeBefore c.edge d.edge) own
  pub exact : (c : Counted) → Contains own c ↔ (Contains counted c × (strip_at cuts c.edge.p ≡ strip))

-- just those of the edges that come into the strip, ascending: their lesser end lies in an earlier one, their greater end in it or in a later one
pub record ComeInto (cuts : List ℤ) (strip : ℕ) (counted crossing : List Counted) : Type 0 where
  pub ascending : AllPairs (λ c d. IsEdgeBefore c.edge d.edge) crossing
  pub exact : (c : Counted) → Contains crossing c ↔ (Contains counted c × (strip_at cuts c.edge.p < strip) × (strip ≤ strip_at cuts c.edge.q))

-- the edges that tell the labels of a strip of layers
pub record TellLabels (counted : List Counted) (cuts : List ℤ) (strip : ℕ) (crossing own : List Counted) : Type 0 where
  pub layers : AreLayers counted
  pub own_are : AreOfStrip cuts strip counted own
  pub crossing_are : ComeInto cuts strip counted crossing

-- d runs along an edge whose lesser end lies before the strip, and is an edge of the result
pub record IsResultEdgeBefore (op : Op) (cuts : List ℤ) (strip : ℕ) (counted : List Counted) (d : DirectedEdge) : Type 0 where
  pub edge : Edge
  pub rounded : Contains (edges_of counted) edge
  pub before : strip_at cuts edge.p < strip
  pub runs : RunsAlong d edge
  pub bounds : is_result_edge op counted d.from d.to ≡ true

-- just those directed edges
abbrev pub AreResultEdgesBefore : Op → List ℤ → ℕ → List Counted → List DirectedEdge → Type 0
AreResultEdgesBefore op cuts strip counted directed = (d : DirectedEdge) → Contains directed d ↔ IsResultEdgeBefore op cuts strip counted d

-- where lists have the rounded edges of one strip after another, each list has those of all of them whose lesser end lies in its strip
abbrev pub EdgesAreOfStrips : Type 0
EdgesAreOfStrips = (cuts : List ℤ) (lines : List Line) (strips : List (List Counted))
    → ((strip : ℕ) (edges : List Counted) → slice_get strips strip ≡ Some edges → AreEdgesOf cuts strip lines edges)
    → (strip : ℕ) (own : List Counted) → slice_get strips strip ≡ Some own → AreOfStrip cuts strip (flat_map (λ edges. edges) strips) own
