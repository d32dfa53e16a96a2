-- Layers that are read as covered (own): a point lies in a layer where some feature of it covers the point, so features that overlap don't cancel.
-- The features of layer A are those numbered below `split`, and those of layer B the others, of `count` in all.
use Rattle.std.specs.Prelude.{◌≡◌, ◌↔◌, ◌&&◌, ℕ, Bool, true, not, List, AllPairs, Contains, nat_le, nat_lt}
use Rattle.std.specs.List.{list_any}
use Rattle.geom.specs.declared.point.Pt.{Pt}
use Rattle.geom.specs.declared.op.Op.{Op}
use Rattle.geom.specs.declared.edge.Edge.{Edge}
use Rattle.geom.specs.declared.directed.DirectedEdge.{DirectedEdge}
use Rattle.geom.specs.Directed.{IsDirectedBefore, RunsAlong}
use Rattle.geom.specs.Operations.{holds}
use Rattle.geom.specs.Pixel.{Point}
use Rattle.geom.specs.ResultEdges.{left_side, right_side}
use Rattle.cover_law.specs.Cover.{Bordered, cover, edges_in}

-- whether some of these features is of layer A
abbrev pub has_of_a : ℕ → List ℕ → Bool
has_of_a split set = list_any (λ f. nat_lt f split) set

-- whether some of these features is of layer B
abbrev pub has_of_b : ℕ → List ℕ → Bool
has_of_b split set = list_any (λ f. nat_le split f) set

-- whether some feature of layer A covers z
abbrev pub is_covered_in_a : ℕ → ℕ → List Bordered → Point → Bool
is_covered_in_a split count edges z = has_of_a split (cover count edges z)

-- whether some feature of layer B covers z
abbrev pub is_covered_in_b : ℕ → ℕ → List Bordered → Point → Bool
is_covered_in_b split count edges z = has_of_b split (cover count edges z)

-- whether the operation holds of z, by whether layer A and layer B cover it
abbrev pub holds_covered : Op → ℕ → ℕ → List Bordered → Point → Bool
holds_covered op split count edges z = holds op (is_covered_in_a split count edges z) (is_covered_in_b split count edges z)

-- whether the operation holds on the left of the edge directed from u to v, and not on its right
abbrev pub bounds_covered : Op → ℕ → ℕ → List Bordered → Pt → Pt → Bool
bounds_covered op split count edges u v = holds_covered op split count edges (left_side u v) && not (holds_covered op split count edges (right_side u v))

-- d runs along one of the edges, and bounds the result
pub record IsCoveredEdge (op : Op) (split count : ℕ) (edges : List Bordered) (d : DirectedEdge) : Type 0 where
  pub edge : Edge
  pub rounded : Contains (edges_in edges) edge
  pub runs : RunsAlong d edge
  pub bounds : bounds_covered op split count edges d.from d.to ≡ true

-- the directed edges of the result, ascending, and no others
pub record AreCoveredEdges (op : Op) (split count : ℕ) (edges : List Bordered) (directed : List DirectedEdge) : Type 0 where
  pub ascending : AllPairs IsDirectedBefore directed
  pub exact : (d : DirectedEdge) → Contains directed d ↔ IsCoveredEdge op split count edges d
