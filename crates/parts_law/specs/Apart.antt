-- Two parts of directed edges that share no vertex, and no hole of one of which lies over the other (own).
use Rattle.std.specs.Prelude.{◌≢◌, ◌↔◌, List, AllPairs, Contains}
use Rattle.geom.specs.declared.point.Pt.{Pt}
use Rattle.geom.specs.declared.directed.DirectedEdge.{DirectedEdge}
use Rattle.geom.specs.Directed.{IsDirectedBefore, from_to}
use Rattle.geom.specs.Holes.{IsNearestBelow, left_of}
use Rattle.parts_law.specs.Bounds.{IsHoleCorner}
use Rattle.parts_law.specs.Ties.{AreOthers}

-- no end of d is one of e
pub record HaveOtherEnds (d e : DirectedEdge) : Type 0 where
  pub starts : d.from ≢ e.from
  pub start_end : d.from ≢ e.to
  pub end_start : d.to ≢ e.from
  pub ends : d.to ≢ e.to

pub record AreApart (directed these others : List DirectedEdge) : Type 0 where
  pub ascending : AllPairs IsDirectedBefore these
  pub are_others : AreOthers directed these others
  pub vertices : (d e : DirectedEdge) → Contains these d → Contains others e → HaveOtherEnds d e
  pub holes : (u v w : Pt) → IsHoleCorner directed u v w → (d : DirectedEdge) → IsNearestBelow directed (left_of v) d
      → Contains these (from_to v w) ↔ Contains these d
