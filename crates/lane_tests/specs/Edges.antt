-- Edges and segments as pairs of points.
use Rattle.std.specs.Prelude.{ℕ, suc, pos, List, [], ◌∷◌, get_or}
use Rattle.geom.specs.Limit.{AreInLimit}
use Rattle.geom.specs.Order.{IsBefore}
use Rattle.geom.specs.declared.edge.Edge.{Edge}
use Rattle.lane_tests.specs.Columns.{Ends, nowhere}

abbrev pub ends : Edge → Ends
ends e = (e.p, e.q)

-- all points are in the coordinate limit
pub record AreNear (pairs : List Ends) : Type 0 where
  pub near : (k : ℕ) → AreInLimit (get_or pairs k nowhere).0 (get_or pairs k nowhere).1

-- the ends of the edge that stands where there is none
abbrev pub anywhere : Ends
anywhere = (record { x = pos 0; y = pos 0 }, record { x = pos 1; y = pos 0 })

-- the pairs are the ends of edges
pub record AreEdges (pairs : List Ends) : Type 0 where
  pub ordered : (k : ℕ) → IsBefore (get_or pairs k anywhere).0 (get_or pairs k anywhere).1

abbrev pub edges_of : (pairs : List Ends) → AreEdges pairs → List Edge
edges_of [] h = []
edges_of (e ∷ es) h = record { p = e.0; q = e.1; ordered = h.ordered 0 } ∷ edges_of es (record { ordered = λ k. h.ordered (suc k) })
