-- What the call for C answers for directed edges (own).
use Rattle.std.specs.Prelude.{◌≡◌, ◌≢◌, ℕ, List, All, map}
use Rattle.geom.specs.declared.edge.Counted.{Counted}
use Rattle.geom.specs.declared.directed.DirectedEdge.{DirectedEdge}
use Rattle.geom.specs.declared.op.Op.{Op}
use Rattle.geom.specs.Canonical.{ArePolygons, HaveEachEdge, Shape, written_rings}
use Rattle.geom.specs.Directed.{AreResultEdges, IsDirectedBefore}
use Rattle.geom.specs.Holes.{HasGroundedRings}
use Rattle.geom.specs.Limit.{AreInLimit}
use Rattle.geom.specs.ListOrder.{IsLeastRotation}
use Rattle.geom.specs.NodedEdges.{AreNodedEdges}
use Rattle.geom.specs.Rings.{Closes}
use Rattle.points_law.specs.Law.{AreLayers}
use Rattle.polygonize.specs.Closing.{IsFirstOpen}
use Rattle.polygonize.specs.Written.{AreSimple}
use Rattle.results.specs.Results.{IsResult}
use Rattle.overlay_c.specs.declared.columns_answer.OverlayColumnsAnswer.{OverlayColumnsAnswer}
use Rattle.overlay_c.specs.declared.strip_items.OverlayDirected.{OverlayDirected}
use Rattle.overlay_c.specs.Columns.{AreListsOf, Lists, refused_answer}
use Rattle.overlay_c.specs.Strips.{AreInPlace, IsFirstBad}

-- the edge that C sees so
abbrev pub directed_edge : OverlayDirected → DirectedEdge
directed_edge o = record { from = record { x = o.ax; y = o.ay }; to = record { x = o.bx; y = o.by } }

abbrev pub directed_edges : List OverlayDirected → List DirectedEdge
directed_edges items = map directed_edge items

-- ---- what the list has to be

-- within the limit, and no point alone
pub record IsProper (d : DirectedEdge) : Type 0 where
  pub in_limit : AreInLimit d.from d.to
  pub apart : d.from ≢ d.to

abbrev pub IsDirectedItem : OverlayDirected → Type 0
IsDirectedItem o = IsProper (directed_edge o)

-- by start, then by end
abbrev pub IsDirectedItemBefore : OverlayDirected → OverlayDirected → Type 0
IsDirectedItemBefore o p = IsDirectedBefore (directed_edge o) (directed_edge p)

abbrev pub AreDirectedItems : List OverlayDirected → Type 0
AreDirectedItems items = AreInPlace IsDirectedItem IsDirectedItemBefore items

-- ---- polygons

-- The edges close, and these are columns of polygons whose rings have each of them once, visit no point twice and begin at their least rotation.
-- Where the edges meet only at ends, and below each hole lies one that begins further left, they are the polygons of the edges.
pub record ArePolygonsAlong (directed : List DirectedEdge) (lists : Lists) : Type 0 where
  pub closes : Closes directed
  pub shapes : List Shape
  pub columns : AreListsOf shapes lists
  pub each_edge : HaveEachEdge directed shapes
  pub simple : AreSimple (written_rings shapes)
  pub least : All (λ ring. IsLeastRotation ring ring) (written_rings shapes)
  pub are_polygons : AreNodedEdges directed → HasGroundedRings directed → ArePolygons directed shapes

-- the list is in place, and these are columns of such polygons
pub record ArePolygonColumns (items : List OverlayDirected) (lists : Lists) : Type 0 where
  pub in_place : AreDirectedItems items
  pub along : ArePolygonsAlong (directed_edges items) lists

-- why there are none: an edge out of place; one with an end at a vertex where they don't close; or memory ran out
pub data FailsPolygons (items : List OverlayDirected) : OverlayColumnsAnswer → Type 0 where
  bad_edge : (place : ℕ) → IsFirstBad IsDirectedItem IsDirectedItemBefore items place → FailsPolygons items (refused_answer 3 18 0 place)
  open_edge : AreDirectedItems items → (place : ℕ) → IsFirstOpen (directed_edges items) place → FailsPolygons items (refused_answer 3 19 0 place)
  no_memory : AreDirectedItems items → FailsPolygons items (refused_answer 1 10 2 0)

-- ---- the edges of a result

-- of the directed edges of an operation's result the call tells the polygons of the result, and nothing but want of memory is refused
abbrev pub ResultsHavePolygons : Type 0
ResultsHavePolygons = (op : Op) (counted : List Counted) (items : List OverlayDirected) → AreLayers counted → AreResultEdges op counted (directed_edges items)
    → ((lists : Lists) → ArePolygonColumns items lists → (shapes : List Shape) × IsResult op counted shapes × AreListsOf shapes lists)
    × ((answer : OverlayColumnsAnswer) → FailsPolygons items answer → answer ≡ refused_answer 1 10 2 0)
