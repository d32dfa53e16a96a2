-- The cover sets that have rows, with the edges of these (own).
use Rattle.std.specs.Prelude.{◌<◌, ℕ, List, All}
use Rattle.geom.specs.declared.edge.Counted.{Counted}
use Rattle.cover_law.specs.declared.border.Border.{Border}
use Rattle.cover_law.specs.Cover.{Bordered}
use Rattle.rows.specs.declared.edges.RowEdge.{RowEdge}
use Rattle.rows.specs.declared.runs.RowSet.{RowSet}
use Rattle.rows.specs.RowEdges.{AreEdgesOfRows}
use Rattle.rows.specs.Made.{AreReady}

-- the edge of a border without counts, for which a sweep doesn't ask
abbrev pub uncounted : Border → Counted
uncounted b = record { edge = b.edge; in_a = 0; in_b = 0 }

-- the sets that have a row over borders of some features, with the directed edges of their rows
pub record AreFaceSets (features : List ℕ) (borders : List Bordered) (sets : List (List ℕ)) (edges : List RowEdge) (row_sets : List RowSet) : Type 0 where
  pub are_edges : (count : ℕ) → All (λ f. f < count) features → AreEdgesOfRows count borders sets edges
  pub ready : AreReady sets edges row_sets
