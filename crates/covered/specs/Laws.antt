-- Laws of operations on layers that are read as covered.
use Rattle.std.specs.Prelude.{◌≡◌, ◌↔◌, ◌<◌, ◌≤◌, ℕ, true, List}
use Rattle.geom.specs.declared.op.Op.{Op}
use Rattle.geom.specs.declared.op.Op.TheVariants.{Union}
use Rattle.geom.specs.declared.edge.Counted.{Counted}
use Rattle.geom.specs.declared.directed.DirectedEdge.{DirectedEdge}
use Rattle.geom.specs.Canonical.{HaveEachEdge, Shape, written_rings}
use Rattle.geom.specs.Directed.{AreResultEdges}
use Rattle.geom.specs.Parity.{parity}
use Rattle.geom.specs.Pixel.{Point}
use Rattle.geom.specs.ResultEdges.{holds_at}
use Rattle.geom.specs.RingParity.{ring_parity}
use Rattle.geom.specs.Rounded.{edges_of}
use Rattle.points_law.specs.Law.{AreLayers}
use Rattle.cover_law.specs.Changing.{changing}
use Rattle.cover_law.specs.Cover.{AreBorders, Bordered, border, edges_in}
use Rattle.covered.specs.Covered.{AreCoveredEdges, holds_covered, is_covered_in_a, is_covered_in_b}

-- z lies in a layer where it lies, by parity, in one of its features at least
pub record IsCoverage (split count : ℕ) (edges : List Bordered) (z : Point) : Type 0 where
  pub in_a : (is_covered_in_a split count edges z ≡ true) ↔ ((f : ℕ) × (f < count) × (f < split) × (parity (border f edges) z ≡ true))
  pub in_b : (is_covered_in_b split count edges z ≡ true) ↔ ((f : ℕ) × (f < count) × (split ≤ f) × (parity (border f edges) z ≡ true))

abbrev pub CoverageIsExact : Type 0
CoverageIsExact = (split count : ℕ) (edges : List Bordered) (z : Point) → IsCoverage split count edges z

-- The points of which the operation holds are those of a layer over the same edges: so all that is proved of the result of an operation,
-- its rings, holes and polygons, holds of these.
pub record IsLayerOf (op : Op) (split count : ℕ) (edges : List Bordered) (counted : List Counted) : Type 0 where
  pub layers : AreLayers counted
  pub edges_are : edges_of counted ≡ edges_in edges
  pub points : (z : Point) → holds_at Union counted z ≡ holds_covered op split count edges z
  pub directed : (directed : List DirectedEdge) → AreCoveredEdges op split count edges directed ↔ AreResultEdges Union counted directed

abbrev pub CoveredIsLayer : Type 0
CoveredIsLayer = (op : Op) (split count : ℕ) (edges : List Bordered) → AreBorders edges → (counted : List Counted) × IsLayerOf op split count edges counted

-- any rational point lies in the polygons of the result, by parity over their rings, exactly where the operation holds of it
abbrev pub CoveredTells : Type 0
CoveredTells = (op : Op) (split count : ℕ) (edges : List Bordered) → AreBorders edges → (directed : List DirectedEdge) → AreCoveredEdges op split count edges directed
    → (polygons : List Shape) → HaveEachEdge directed polygons → (z : Point) → ring_parity (written_rings polygons) z ≡ holds_covered op split count edges z

-- edges have one list of directed edges of a result
abbrev pub CoveredEdgesAreOne : Type 0
CoveredEdgesAreOne = (op : Op) (split count : ℕ) (edges : List Bordered) (directed others : List DirectedEdge)
    → AreCoveredEdges op split count edges directed → AreCoveredEdges op split count edges others → directed ≡ others

-- edges that are no feature's border may be left out
abbrev pub ChangingHaveSameEdges : Type 0
ChangingHaveSameEdges = (op : Op) (split count : ℕ) (edges : List Bordered) → AreBorders edges → (directed : List DirectedEdge)
    → AreCoveredEdges op split count edges directed ↔ AreCoveredEdges op split count (changing edges) directed
