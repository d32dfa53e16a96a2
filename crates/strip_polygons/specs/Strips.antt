-- Polygons that were made strip by strip (own).
use Rattle.std.specs.Prelude.{◌≡◌, ◌⊎◌, ◌↔◌, ◌≤◌, ℕ, ℤ, List, AllPairs, Contains, length}
use Rattle.geom.specs.declared.directed.DirectedEdge.{DirectedEdge}
use Rattle.geom.specs.declared.edge.Edge.{Edge}
use Rattle.geom.specs.Canonical.{ArePolygons, Shape}
use Rattle.geom.specs.Directed.{IsDirectedBefore, RunsAlong}
use Rattle.geom.specs.ListOrder.{IsListBefore}
use Rattle.strips_law.specs.Strips.{strip_at}
use Rattle.parts_law.specs.Bounds.{AreBounds}
use Rattle.parts_law.specs.Law.{AreTogether}
use Rattle.parts_law.specs.Ties.{BeginsFrom, HasColumn}

-- just these polygons, in the order of their shells
pub record AreInOrder (polygons all : List Shape) : Type 0 where
  pub ascending : AllPairs (λ p q. IsListBefore p.shell q.shell) all
  pub exact : (p : Shape) → Contains all p ↔ Contains polygons p

-- ---- the edges of a strip

-- the lesser end of d lies in the strip
pub record BeginsIn (cuts : List ℤ) (strip : ℕ) (d : DirectedEdge) : Type 0 where
  pub edge : Edge
  pub runs : RunsAlong d edge
  pub begins : strip_at cuts edge.p ≡ strip

-- those that wait and those of the directed edges that begin in the strip, ascending
pub record AreMet (cuts : List ℤ) (strip : ℕ) (waiting directed met : List DirectedEdge) : Type 0 where
  pub ascending : AllPairs IsDirectedBefore met
  pub exact : (d : DirectedEdge) → Contains met d ↔ (Contains waiting d ⊎ (Contains directed d × BeginsIn cuts strip d))

-- ---- before a strip

-- the directed edges that were not closed before the strip: those that wait, and all that begin in the strip or later; none behind the last strip
pub record AreLeft (cuts : List ℤ) (strip : ℕ) (directed waiting left : List DirectedEdge) : Type 0 where
  pub bounds : AreBounds left
  pub within : (d : DirectedEdge) → Contains left d → Contains directed d
  pub later : (d : DirectedEdge) → Contains directed d → BeginsFrom cuts strip d → Contains left d
  pub waiting_is : (d : DirectedEdge) → Contains waiting d ↔ (Contains left d × HasColumn cuts 0 strip d)
  pub not_past : (d : DirectedEdge) → Contains left d → strip ≤ length cuts

-- these polygons and those of what is left are the polygons of the directed edges
abbrev pub AreCompletedBy : List DirectedEdge → List Shape → List DirectedEdge → Type 0
AreCompletedBy directed polygons left = (rest all : List Shape) → ArePolygons left rest → AreTogether polygons rest all → ArePolygons directed all

-- what holds before the strip
pub record ArePartway (cuts : List ℤ) (strip : ℕ) (directed waiting : List DirectedEdge) (polygons : List Shape) : Type 0 where
  pub left : List DirectedEdge
  pub are_left : AreLeft cuts strip directed waiting left
  pub completed : AreCompletedBy directed polygons left
