-- Which directed edges bound one part of the plane, and which of those that a range of strips knows are closed there (own).
use Rattle.std.specs.Prelude.{◌≡◌, ◌⊎◌, ◌↔◌, ◌<◌, ◌≤◌, ℕ, ℤ, List, AllPairs, Contains}
use Rattle.geom.specs.declared.directed.DirectedEdge.{DirectedEdge}
use Rattle.geom.specs.declared.edge.Edge.{Edge}
use Rattle.geom.specs.Directed.{IsDirectedBefore, RunsAlong}
use Rattle.geom.specs.Holes.{IsNearestBelow, left_of}
use Rattle.strips_law.specs.Strips.{strip_at}
use Rattle.parts_law.specs.Bounds.{GoesRight}

-- ---- ties

-- both go to the right, and d is the nearest edge below the start of e: what d bounds lies between them
pub record LiesUnder (directed : List DirectedEdge) (d e : DirectedEdge) : Type 0 where
  pub lower_goes : GoesRight d
  pub upper_goes : GoesRight e
  pub nearest : IsNearestBelow directed (left_of e.from) d

-- both leave one vertex, or e leaves the end of d, or d lies under e
abbrev pub AreTied : List DirectedEdge → DirectedEdge → DirectedEdge → Type 0
AreTied directed d e = (d.from ≡ e.from) ⊎ ((d.to ≡ e.from) ⊎ LiesUnder directed d e)

-- from d, one of the edges, ties lead to one of which P holds
pub data LeadsTo (directed : List DirectedEdge) (P : DirectedEdge → Type 0) : DirectedEdge → Type 0 where
  here : {d : DirectedEdge} → Contains directed d → P d → LeadsTo directed P d
  on : {d e : DirectedEdge} → Contains directed d → AreTied directed d e ⊎ AreTied directed e d → LeadsTo directed P e
      → LeadsTo directed P d

-- ---- strips from one to before another one

-- d has a column of them
pub record HasColumn (cuts : List ℤ) (from past : ℕ) (d : DirectedEdge) : Type 0 where
  pub edge : Edge
  pub runs : RunsAlong d edge
  pub begins : strip_at cuts edge.p < past
  pub ends : from ≤ strip_at cuts edge.q

-- d comes from before them, or goes on behind them
pub record GoesOver (cuts : List ℤ) (from past : ℕ) (d : DirectedEdge) : Type 0 where
  pub edge : Edge
  pub runs : RunsAlong d edge
  pub over : (strip_at cuts edge.p < from) ⊎ (past ≤ strip_at cuts edge.q)

-- d comes into the strip from the left
pub record ComesInto (cuts : List ℤ) (strip : ℕ) (d : DirectedEdge) : Type 0 where
  pub edge : Edge
  pub runs : RunsAlong d edge
  pub before : strip_at cuts edge.p < strip
  pub into : strip ≤ strip_at cuts edge.q

-- d has its lesser end in the strip or in a later one
pub record BeginsFrom (cuts : List ℤ) (from : ℕ) (d : DirectedEdge) : Type 0 where
  pub edge : Edge
  pub runs : RunsAlong d edge
  pub begins : from ≤ strip_at cuts edge.p

-- just those of the directed edges that have a column of the strips, ascending
pub record AreKnown (cuts : List ℤ) (from past : ℕ) (directed known : List DirectedEdge) : Type 0 where
  pub ascending : AllPairs IsDirectedBefore known
  pub exact : (d : DirectedEdge) → Contains known d ↔ (Contains directed d × HasColumn cuts from past d)

-- just those of the directed edges that come into the strip
abbrev pub AreComing : List ℤ → ℕ → List DirectedEdge → List DirectedEdge → Type 0
AreComing cuts strip directed coming = (d : DirectedEdge) → Contains coming d ↔ (Contains directed d × ComesInto cuts strip d)

-- d is open there: ties lead from it to an edge that comes from before the strips or goes on behind them
abbrev pub IsOpen : List ℤ → ℕ → ℕ → List DirectedEdge → DirectedEdge → Type 0
IsOpen cuts from past known d = LeadsTo known (GoesOver cuts from past) d

-- the known edges that are not open, and those open ones that begin in the strips, both ascending
pub record AreParted (cuts : List ℤ) (from past : ℕ) (known closed open_ones : List DirectedEdge) : Type 0 where
  pub closed_ascends : AllPairs IsDirectedBefore closed
  pub closed_is : (d : DirectedEdge) → Contains closed d ↔ (Contains known d × ¬ (IsOpen cuts from past known d))
  pub open_ascends : AllPairs IsDirectedBefore open_ones
  pub open_is : (d : DirectedEdge) → Contains open_ones d ↔ (Contains known d × IsOpen cuts from past known d × BeginsFrom cuts from d)

-- the other ones of the directed edges than these, ascending
pub record AreOthers (directed these others : List DirectedEdge) : Type 0 where
  pub ascending : AllPairs IsDirectedBefore others
  pub either : (d : DirectedEdge) → Contains directed d ↔ (Contains these d ⊎ Contains others d)
  pub not_both : (d : DirectedEdge) → Contains these d → ¬ (Contains others d)
