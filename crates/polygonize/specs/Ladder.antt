-- Edges that span columns, from low to high.
use Rattle.std.specs.Prelude.{◌<◌, ◌≤◌, ◌+◌, ◌-ℤ◌, ◌*ℤ◌, ◌≤ℤ◌, ℕ, ℤ, pos, List, All, Contains, length, slice_index_or}
use Rattle.geom.specs.declared.directed.DirectedEdge.{DirectedEdge}
use Rattle.geom.specs.declared.edge.Edge.{Edge}
use Rattle.geom.specs.declared.point.Pt.{Pt}
use Rattle.geom.specs.Determinant.{side}
use Rattle.geom.specs.Directed.{RunsAlong}
use Rattle.geom.specs.Holes.{height, left_of, run_of}
use Rattle.polygonize.specs.declared.column.Columns.{Columns}
use Rattle.polygonize.specs.Below.{RunsBelow}
use Rattle.polygonize.specs.Column.{Spans}
use Rattle.polygonize.specs.Next.{edge_at}

-- how far the point (column, 0) lies above the edge's line, times the edge's run
abbrev pub over_column : Edge → ℤ → ℤ
over_column e column = side e.p e.q (record { x = column; y = pos 0 })

-- the line of e lies at or under that of f over a column; both run to the right
abbrev pub IsUnder : Edge → Edge → ℤ → Type 0
IsUnder e f column = (over_column f column *ℤ run_of e) ≤ℤ (over_column e column *ℤ run_of f)

-- the lower edge lies at or under the other one over the border left of the columns, and over the last column
abbrev pub AreInOrder : DirectedEdge → DirectedEdge → Columns → Type 0
AreInOrder lower upper columns = (e f : Edge) → RunsAlong lower e → RunsAlong upper f → IsUnder e f (columns.low -ℤ pos 1) × IsUnder e f columns.high

-- the found ones are those of the numbers whose edges span the columns
pub record AreSpanning (ds : List DirectedEdge) (columns : Columns) (numbers found : List ℕ) : Type 0 where
  pub inside : All (λ k. k < length ds) found
  pub spans : All (λ k. Spans (edge_at ds k) columns) found
  pub complete : (k : ℕ) → Contains numbers k → Spans (edge_at ds k) columns → Contains found k

-- the edges at the numbers span the columns, and each is in order with the next one
pub record IsLadder (ds : List DirectedEdge) (columns : Columns) (numbers : List ℕ) : Type 0 where
  pub spans : All (λ k. Spans (edge_at ds k) columns) numbers
  pub ordered : (i : ℕ) → i + 1 < length numbers → AreInOrder (edge_at ds (slice_index_or numbers i 0)) (edge_at ds (slice_index_or numbers (i + 1) 0)) columns

-- where the upper edge lies below the point just left of v, so does the lower one, at least as far
abbrev pub IsLower : Pt → DirectedEdge → DirectedEdge → Type 0
IsLower v lower upper = (f : Edge) → RunsBelow upper (left_of v) f → (e : Edge) × RunsBelow lower (left_of v) e × ((height f (left_of v) *ℤ run_of e) ≤ℤ (height e (left_of v) *ℤ run_of f))

-- the edges at the numbers stand from low to high below the point just left of v
abbrev pub StandInOrder : List DirectedEdge → Pt → List ℕ → Type 0
StandInOrder ds v numbers = (i j : ℕ) → i ≤ j → j < length numbers → IsLower v (edge_at ds (slice_index_or numbers i 0)) (edge_at ds (slice_index_or numbers j 0))
