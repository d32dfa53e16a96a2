-- The text of a set operation on two layers that are read as covered (OGC 06-103r4 for the text; the rest is own).
use Rattle.std.specs.Prelude.{◌≡◌, ℕ, List, [], ◌∷◌, ◌++◌, All, map}
use Rattle.geom.specs.declared.op.Op.{Op}
use Rattle.geom.specs.declared.directed.DirectedEdge.{DirectedEdge}
use Rattle.geom.specs.Canonical.{ArePolygons, HaveEachEdge, Shape, written_rings}
use Rattle.geom.specs.ListOrder.{IsLeastRotation}
use Rattle.geom.specs.Pixel.{Point}
use Rattle.geom.specs.RingParity.{ring_parity}
use Rattle.polygonize.specs.Written.{AreSimple}
use Rattle.wkt.specs.Canonical.{closed, multi_text}
use Rattle.wkt.specs.Refusals.{IsLayerOf}
use Rattle.cover_law.specs.Cover.{Bordered}
use Rattle.covered.specs.Covered.{AreCoveredEdges, holds_covered}

-- The text is the canonical line of the polygons of the result's directed edges, as that of any operation (`IsResultText`). Any point lies in the
-- polygons, by the even-odd rule over all their rings, exactly where the operation holds, by whether some feature of each layer covers the point.
pub record IsCoveredText (op : Op) (split count : ℕ) (edges : List Bordered) (text : List ℕ) : Type 0 where
  pub directed : List DirectedEdge
  pub bound : AreCoveredEdges op split count edges directed
  pub polygons : List Shape
  pub are_polygons : ArePolygons directed polygons
  pub each_edge : HaveEachEdge directed polygons
  pub simple : AreSimple (written_rings polygons)
  pub least : All (λ ring. IsLeastRotation ring ring) (written_rings polygons)
  pub points : (z : Point) → ring_parity (written_rings polygons) z ≡ holds_covered op split count edges z
  pub written : text ≡ multi_text polygons
  pub reads : (line : List ℕ) × (text ≡ line ++ 10 ∷ []) × IsLayerOf line (map closed (written_rings polygons))
