-- The directions in which edges bound a result (own).
use Rattle.std.specs.Prelude.{Bool, List, [], ◌∷◌, ◌++◌, ◌&&◌, not, if◌then◌else◌}
use Rattle.geom.specs.declared.point.Pt.{Pt}
use Rattle.geom.specs.declared.op.Op.{Op}
use Rattle.geom.specs.declared.segment.Source.{Source}
use Rattle.geom.specs.declared.segment.Source.TheVariants.{A, B}
use Rattle.geom.specs.declared.edge.Edge.{Edge}
use Rattle.geom.specs.declared.edge.Counted.{Counted}
use Rattle.geom.specs.declared.directed.DirectedEdge.{DirectedEdge}
use Rattle.geom.specs.Pixel.{Point}
use Rattle.geom.specs.Operations.{holds}
use Rattle.geom.specs.Parity.{parity}
use Rattle.geom.specs.Rounded.{is_odd}
use Rattle.geom.specs.ResultEdges.{is_result_edge, left_side, right_side}
use Rattle.geom.specs.Directed.{from_to}

-- the odd edges of both layers
pub record OddLayers : Type 0 where
  pub a : List Edge
  pub b : List Edge

-- whether an edge is odd in a layer
abbrev pub counts_odd : Source → Counted → Bool
counts_odd A c = is_odd c.in_a
counts_odd B c = is_odd c.in_b

-- whether the operation holds of the parities of z in the two layers
abbrev pub holds_in : Op → OddLayers → Point → Bool
holds_in op odd z = holds op (parity odd.a z) (parity odd.b z)

-- whether the edge directed from u to v bounds the result on its left
abbrev pub bounds : Op → OddLayers → Pt → Pt → Bool
bounds op odd u v = holds_in op odd (left_side u v) && not (holds_in op odd (right_side u v))

-- whether p to q, and whether q to p
abbrev pub both_ways : Op → OddLayers → Edge → Bool × Bool
both_ways op odd e = (bounds op odd e.p e.q, bounds op odd e.q e.p)

-- whether p to q, and whether q to p, is an edge of the result
abbrev pub ways_by : Op → List Counted → Edge → Bool × Bool
ways_by op counted e = (is_result_edge op counted e.p e.q, is_result_edge op counted e.q e.p)

-- the directed edges along e, by whether p to q and whether q to p is one
abbrev pub ways : Edge → Bool × Bool → List DirectedEdge
ways e way = (if way.0 then from_to e.p e.q ∷ [] else []) ++ (if way.1 then from_to e.q e.p ∷ [] else [])

-- those along all edges
abbrev pub ways_of : List Counted → List (Bool × Bool) → List DirectedEdge
ways_of [] ls = []
ways_of (c ∷ cs) [] = []
ways_of (c ∷ cs) (l ∷ ls) = ways c.edge l ++ ways_of cs ls
