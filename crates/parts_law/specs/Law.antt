-- The polygons of directed edges are those of their closed parts and of what is left (own).
use Rattle.std.specs.Prelude.{◌↔◌, ◌⊎◌, ◌≤◌, ℕ, ℤ, List, AllPairs, Contains}
use Rattle.geom.specs.declared.op.Op.{Op}
use Rattle.geom.specs.declared.edge.Counted.{Counted}
use Rattle.geom.specs.declared.directed.DirectedEdge.{DirectedEdge}
use Rattle.geom.specs.Canonical.{ArePolygons, Shape}
use Rattle.geom.specs.Directed.{AreResultEdges, IsDirectedBefore}
use Rattle.geom.specs.ListOrder.{IsListBefore}
use Rattle.points_law.specs.Law.{AreLayers}
use Rattle.parts_law.specs.Bounds.{AreBounds}
use Rattle.parts_law.specs.Ties.{AreComing, AreKnown, AreOthers, AreParted, HasColumn}

-- the directed edges of a result bound a part of the plane
abbrev pub ResultEdgesAreBounds : Type 0
ResultEdgesAreBounds = (op : Op) (counted : List Counted) (directed : List DirectedEdge) → AreLayers counted → AreResultEdges op counted directed
    → AreBounds directed

-- polygons of two lists, in the order of their shells, and no others
pub record AreTogether (first second all : List Shape) : Type 0 where
  pub ascending : AllPairs (λ p q. IsListBefore p.shell q.shell) all
  pub exact : (p : Shape) → Contains all p ↔ (Contains first p ⊎ Contains second p)

-- what is closed in a range of strips, and the other edges
pub record AreClosedIn (cuts : List ℤ) (from past : ℕ) (directed closed others : List DirectedEdge) : Type 0 where
  pub bounds : AreBounds directed
  pub known : List DirectedEdge
  pub are_known : AreKnown cuts from past directed known
  pub open_ones : List DirectedEdge
  pub are_parted : AreParted cuts from past known closed open_ones
  pub are_others : AreOthers directed closed others

-- both bound a part of the plane
abbrev pub PartsAreBounds : Type 0
PartsAreBounds = (cuts : List ℤ) (from past : ℕ) (directed closed others : List DirectedEdge) → AreClosedIn cuts from past directed closed others
    → AreBounds closed × AreBounds others

-- and the polygons of both together are those of all edges
abbrev pub PolygonsOfParts : Type 0
PolygonsOfParts = (cuts : List ℤ) (from past : ℕ) (directed closed others : List DirectedEdge)
    → AreClosedIn cuts from past directed closed others → (first second all : List Shape)
    → ArePolygons closed first → ArePolygons others second → AreTogether first second all → ArePolygons directed all

-- what is closed in a range of strips is nothing that another range, which has none of these strips, knows
abbrev pub RangesAreApart : Type 0
RangesAreApart = (cuts : List ℤ) (from past other_from other_past : ℕ) (directed closed others known : List DirectedEdge)
    → (past ≤ other_from) ⊎ (other_past ≤ from) → AreClosedIn cuts from past directed closed others
    → AreKnown cuts other_from other_past directed known → AreKnown cuts other_from other_past others known

-- what two ranges of strips that touch tell of the same edges, and which of those that have a column there are left
pub record AreTwoRanges (cuts : List ℤ) (from middle past : ℕ) (directed open_first open_second others : List DirectedEdge) : Type 0 where
  pub in_order : (from ≤ middle) × (middle ≤ past)
  pub known_first : List DirectedEdge
  pub closed_first : List DirectedEdge
  pub are_known_first : AreKnown cuts from middle directed known_first
  pub are_parted_first : AreParted cuts from middle known_first closed_first open_first
  pub known_second : List DirectedEdge
  pub closed_second : List DirectedEdge
  pub are_known_second : AreKnown cuts middle past directed known_second
  pub are_parted_second : AreParted cuts middle past known_second closed_second open_second
  pub left : (d : DirectedEdge) → HasColumn cuts from past d
      → Contains others d ↔ (Contains directed d × ¬ (Contains closed_first d) × ¬ (Contains closed_second d))

-- what comes into both from the left and is open in either of them is what both together know of what is left
abbrev pub RangesAreJoined : Type 0
RangesAreJoined = (cuts : List ℤ) (from middle past : ℕ) (directed open_first open_second others coming known : List DirectedEdge)
    → AreTwoRanges cuts from middle past directed open_first open_second others → AreComing cuts from directed coming
    → AllPairs IsDirectedBefore known → ((d : DirectedEdge) → Contains known d ↔ (Contains coming d ⊎ (Contains open_first d ⊎ Contains open_second d)))
    → AreKnown cuts from past others known
