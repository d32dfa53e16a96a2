-- The parities of points over the edges of the result.
use Rattle.std.specs.Prelude.{◌≡◌, List, All, AllPairs}
use Rattle.geom.specs.declared.op.Op.{Op}
use Rattle.geom.specs.declared.point.Pt.{Pt}
use Rattle.geom.specs.declared.segment.Source.{Source}
use Rattle.geom.specs.declared.segment.Source.TheVariants.{A, B}
use Rattle.geom.specs.declared.segment.Seg.{Seg}
use Rattle.geom.specs.declared.edge.Counted.{Counted}
use Rattle.geom.specs.declared.directed.DirectedEdge.{DirectedEdge}
use Rattle.geom.specs.Canonical.{HaveEachEdge, Shape, written_rings}
use Rattle.geom.specs.Directed.{AreResultEdges}
use Rattle.geom.specs.Limit.{AreInLimit}
use Rattle.geom.specs.Pixel.{Point}
use Rattle.geom.specs.Rounded.{AreRounded, IsEdgeBefore, edges_of, odd_edges, HasEvenDegrees}
use Rattle.geom.specs.Segments.{AreClosed, AreSegments}
use Rattle.geom.specs.Parity.{parity}
use Rattle.geom.specs.RingParity.{ring_parity}
use Rattle.geom.specs.Noded.{IsNoded}
use Rattle.geom.specs.ResultEdges.{holds_at, result_edges}

-- edges with counts in two layers, ascending, noded and within the coordinate limit, with even degrees in both rounded layers
pub record AreLayers (counted : List Counted) : Type 0 where
  pub ascending : AllPairs (λ c d. IsEdgeBefore c.edge d.edge) counted
  pub in_limit : All (λ e. AreInLimit e.p e.q) (edges_of counted)
  pub noded : IsNoded (edges_of counted)
  pub even_a : HasEvenDegrees (odd_edges A counted)
  pub even_b : HasEvenDegrees (odd_edges B counted)

-- the parity of any point over the edges of the result is what the operation says of its parities in the two rounded layers
abbrev pub ResultHasParity : Type 0
ResultHasParity = (op : Op) (counted : List Counted) → AreLayers counted → (z : Point) → parity (result_edges op counted) z ≡ holds_at op counted z

-- Any point lies in the polygons of a text, by the even-odd rule over all their rings, exactly where the operation holds of its
-- parities in the two rounded layers: for polygons whose rings together have each directed edge of the result once.
abbrev pub TextHasParity : Type 0
TextHasParity = (op : Op) (counted : List Counted) → AreLayers counted → (directed : List DirectedEdge) → AreResultEdges op counted directed
    → (polygons : List Shape) → HaveEachEdge directed polygons → (z : Point) → ring_parity (written_rings polygons) z ≡ holds_at op counted z

-- every point is an end of an even number of edges of the result
abbrev pub ResultHasEvenDegrees : Type 0
ResultHasEvenDegrees = (op : Op) (counted : List Counted) → AreLayers counted → HasEvenDegrees (result_edges op counted)

-- the segments of rings close
abbrev pub SegmentsOfRingsClose : Type 0
SegmentsOfRingsClose = (a b : List (List Pt)) (segments : List Seg) → AreSegments a b segments → (layer : Source) → AreClosed layer segments

-- where the segments of a layer close, every point is an end of an even number of its rounded edges of odd count
abbrev pub RoundedHasEvenDegrees : Type 0
RoundedHasEvenDegrees = (segments : List Seg) (counted : List Counted) → AreRounded segments counted → (layer : Source) → AreClosed layer segments → HasEvenDegrees (odd_edges layer counted)

-- the rounded edges of closed segments within the limit are such layers, once they are noded
abbrev pub RoundedAreLayers : Type 0
RoundedAreLayers = (segments : List Seg) (counted : List Counted) → AreRounded segments counted → All (λ s. AreInLimit s.a s.b) segments → AreClosed A segments → AreClosed B segments → IsNoded (edges_of counted) → AreLayers counted
