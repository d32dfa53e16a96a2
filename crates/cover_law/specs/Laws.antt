-- Laws of cover sets and rows.
use Rattle.std.specs.Prelude.{◌≡◌, ◌≢◌, ◌↔◌, ◌<◌, ℕ, true, if◌then◌else◌, not, List, [], All, AllPairs, Contains, ◌&&◌, false}
use Rattle.geom.specs.declared.op.Op.TheVariants.{Union}
use Rattle.geom.specs.declared.point.Pt.{Pt}
use Rattle.geom.specs.declared.segment.Seg.{Seg}
use Rattle.geom.specs.declared.segment.Source.TheVariants.{A}
use Rattle.geom.specs.declared.edge.Edge.{Edge}
use Rattle.geom.specs.declared.edge.Counted.{Counted}
use Rattle.geom.specs.declared.directed.DirectedEdge.{DirectedEdge}
use Rattle.geom.specs.Canonical.{written_rings}
use Rattle.geom.specs.Directed.{AreResultEdges}
use Rattle.geom.specs.Limit.{AreInLimit}
use Rattle.geom.specs.Noded.{IsNoded}
use Rattle.geom.specs.Parity.{covers, lies_above, parity}
use Rattle.geom.specs.Pixel.{Point}
use Rattle.geom.specs.ResultEdges.{holds_at, left_side, right_side}
use Rattle.geom.specs.RingParity.{ring_parity}
use Rattle.geom.specs.Rounded.{edges_of, odd_edges}
use Rattle.points_law.specs.Law.{AreLayers}
use Rattle.cover_law.specs.Cover.{AreBorders, Bordered, border, cover, edges_in, has}
use Rattle.cover_law.specs.Borders.{AreBordered, AreFeatureSegments, IsClosedFeature}
use Rattle.cover_law.specs.Areas.{AreFeatureEdges, row_area, rows_with, sum_of, twice_area}
use Rattle.cover_law.specs.Changing.{changing}
use Rattle.cover_law.specs.Rows.{AreRows, AreRowEdges, IsRow, Row, is_covered_by, beyond}

-- the cover set of a point has just the features in which the point lies, each once, ascending
abbrev pub CoverIsExact : Type 0
CoverIsExact = (count : ℕ) (edges : List Bordered) (z : Point)
    → AllPairs (λ f g. f < g) (cover count edges z) × ((f : ℕ) → Contains (cover count edges z) f ↔ ((f < count) × (parity (border f edges) z ≡ true)))

-- across an edge a point comes into the features whose border it is, or leaves them, and no others
abbrev pub RightIsAcross : Type 0
RightIsAcross = (edges : List Bordered) → AreBorders edges → (b : Bordered) → Contains edges b → (f : ℕ)
    → parity (border f edges) (right_side b.edge.p b.edge.q) ≡ (if has f b.features then not (parity (border f edges) (left_side b.edge.p b.edge.q)) else parity (border f edges) (left_side b.edge.p b.edge.q))

-- The points of a cover set that is not empty are those of a layer over the same edges: so all that is proved of the result of an operation,
-- its rings, holes and polygons, holds of a row.
pub record IsLayerOf (count : ℕ) (edges : List Bordered) (set : List ℕ) (counted : List Counted) : Type 0 where
  pub layers : AreLayers counted
  pub edges_are : edges_of counted ≡ edges_in edges
  pub points : (z : Point) → holds_at Union counted z ≡ is_covered_by count edges set z
  pub directed : (directed : List DirectedEdge) → AreRowEdges count edges set directed → AreResultEdges Union counted directed
  pub back : (directed : List DirectedEdge) → AreResultEdges Union counted directed → AreRowEdges count edges set directed

abbrev pub RowIsLayer : Type 0
RowIsLayer = (count : ℕ) (edges : List Bordered) → AreBorders edges → (set : List ℕ) → set ≢ [] → (counted : List Counted) × IsLayerOf count edges set counted

-- any rational point lies in the polygons of a row, by parity over their rings, exactly where its cover set is the row's
abbrev pub RowsTell : Type 0
RowsTell = (count : ℕ) (edges : List Bordered) → AreBorders edges → (row : Row) → IsRow count edges row → (z : Point)
    → ring_parity (written_rings row.polygons) z ≡ is_covered_by count edges row.set z

-- and each point that some feature covers lies in a row
abbrev pub CoveredIsInRow : Type 0
CoveredIsInRow = (count : ℕ) (edges : List Bordered) → AreBorders edges → (rows : List Row) → AreRows count edges rows → (z : Point) → cover count edges z ≢ []
    → (row : Row) × Contains rows row × (row.set ≡ cover count edges z)

-- edges have one list of rows
abbrev pub RowsAreOne : Type 0
RowsAreOne = (count : ℕ) (edges : List Bordered) (rows others : List Row) → AreRows count edges rows → AreRows count edges others → rows ≡ others

-- segments with features have one list of rounded edges with the features whose border these are
abbrev pub BordersAreOne : Type 0
BordersAreOne = (count : ℕ) (segments : List Seg) (owners : List ℕ) (edges others : List Bordered) → AreBordered count segments owners edges → AreBordered count segments owners others → edges ≡ others

-- where the segments of each feature close, and lie within the limit, these are borders, once the edges are noded
abbrev pub RoundedAreBorders : Type 0
RoundedAreBorders = (count : ℕ) (segments : List Seg) (owners : List ℕ) (edges : List Bordered) → AreBordered count segments owners edges
    → All (λ s. AreInLimit s.a s.b) segments → ((f : ℕ) → f < count → IsClosedFeature f segments owners) → IsNoded (edges_in edges) → AreBorders edges

-- One feature over all edges is a layer: so what is proved of the sweep over two layers holds of each feature's parity.
pub record IsFeatureLayer (edges : List Bordered) (f : ℕ) (counted : List Counted) : Type 0 where
  pub layers : AreLayers counted
  pub edges_are : edges_of counted ≡ edges_in edges
  pub points : (z : Point) → parity (odd_edges A counted) z ≡ parity (border f edges) z

abbrev pub FeatureIsLayer : Type 0
FeatureIsLayer = (edges : List Bordered) → AreBorders edges → (f : ℕ) → (counted : List Counted) × IsFeatureLayer edges f counted

-- the areas of the rows that have a feature add up to that of the feature as it was rounded
abbrev pub AreasAddUp : Type 0
AreasAddUp = (count : ℕ) (edges : List Bordered) → AreBorders edges → (rows : List Row) → AreRows count edges rows
    → (f : ℕ) → f < count → (directed : List DirectedEdge) → AreFeatureEdges edges f directed → sum_of row_area (rows_with f rows) ≡ twice_area directed

-- edges that are no feature's border may be left out: all points keep their cover sets, and the rows are the same
pub record AreChanging (edges : List Bordered) : Type 0 where
  pub borders : AreBorders (changing edges)
  pub covers : (count : ℕ) (z : Point) → cover count (changing edges) z ≡ cover count edges z
  pub rows : (count : ℕ) (rows : List Row) → AreRows count edges rows ↔ AreRows count (changing edges) rows

abbrev pub ChangingHaveSameRows : Type 0
ChangingHaveSameRows = (edges : List Bordered) → AreBorders edges → AreChanging edges

-- in features of rings every point begins as many segments of each feature as it ends
abbrev pub FeaturesOfRingsClose : Type 0
FeaturesOfRingsClose = (features : List (List (List Pt))) (segments : List Seg) (owners : List ℕ) → AreFeatureSegments features segments owners → (f : ℕ) → IsClosedFeature f segments owners

-- the cover set on the right of an edge is what lies beyond it: that on its left with its features exchanged
abbrev pub CoverIsBeyond : Type 0
CoverIsBeyond = (count : ℕ) (edges : List Bordered) → AreBorders edges → (b : Bordered) → Contains edges b
    → cover count edges (right_side b.edge.p b.edge.q) ≡ beyond count (cover count edges (left_side b.edge.p b.edge.q)) b.features

-- a point above which no edge lies is covered by nothing
abbrev pub OutsideIsEmpty : Type 0
OutsideIsEmpty = (count : ℕ) (edges : List Bordered) (z : Point) → ((e : Edge) → Contains (edges_in edges) e → covers e z && lies_above e z ≡ false) → cover count edges z ≡ []
