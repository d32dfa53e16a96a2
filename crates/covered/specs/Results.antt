-- The polygons of an operation on layers that are read as covered (own).
use Rattle.std.specs.Prelude.{◌≡◌, ◌++◌, ℕ, All, List, length}
use Rattle.geom.specs.declared.op.Op.{Op}
use Rattle.geom.specs.declared.point.Pt.{Pt}
use Rattle.geom.specs.declared.segment.Seg.{Seg}
use Rattle.geom.specs.declared.directed.DirectedEdge.{DirectedEdge}
use Rattle.geom.specs.Canonical.{ArePolygons, HaveEachEdge, Shape, written_rings}
use Rattle.geom.specs.Limit.{AreInLimit}
use Rattle.geom.specs.Pixel.{Point}
use Rattle.geom.specs.RingParity.{ring_parity}
use Rattle.cover_law.specs.Borders.{AreBordered, AreFeatureSegments}
use Rattle.cover_law.specs.Cover.{Bordered}
use Rattle.covered.specs.Covered.{AreCoveredEdges, holds_covered}

-- the polygons of the result on two layers of features with these rings, whose segments are rounded together
pub record AreCoveredPolygons (op : Op) (a b : List (List (List Pt))) (polygons : List Shape) : Type 0 where
  pub segments : List Seg
  pub owners : List ℕ
  pub are_segments : AreFeatureSegments (a ++ b) segments owners
  pub edges : List Bordered
  pub are_bordered : AreBordered (length (a ++ b)) segments owners edges
  pub directed : List DirectedEdge
  pub are_edges : AreCoveredEdges op (length a) (length (a ++ b)) edges directed
  pub are_polygons : ArePolygons directed polygons
  pub each_edge : HaveEachEdge directed polygons

-- they are determined by the operation and the two layers
abbrev pub CoveredPolygonsAreOne : Type 0
CoveredPolygonsAreOne = (op : Op) (a b : List (List (List Pt))) (polygons others : List Shape) → AreCoveredPolygons op a b polygons → AreCoveredPolygons op a b others → polygons ≡ others

-- any rational point lies in them, by parity over their rings, exactly where the operation holds of it, by whether some rounded feature of
-- each layer covers it
abbrev pub CoveredPolygonsTell : Type 0
CoveredPolygonsTell = (op : Op) (a b : List (List (List Pt))) (polygons : List Shape) → (result : AreCoveredPolygons op a b polygons) → All (λ s. AreInLimit s.a s.b) result.segments
    → (z : Point) → ring_parity (written_rings polygons) z ≡ holds_covered op (length a) (length (a ++ b)) result.edges z
