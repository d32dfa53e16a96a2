-- Vertical columns, and the edges that lie across them.
use Rattle.std.specs.Prelude.{◌⊎◌, ◌<ℤ◌, ◌≤ℤ◌, ◌<◌, ◌≤◌, ℕ, pos, List, All, Contains, length, slice_index_or}
use Rattle.geom.specs.declared.directed.DirectedEdge.{DirectedEdge}
use Rattle.geom.specs.declared.point.Pt.{Pt}
use Rattle.geom.specs.Limit.{IsWithin, coordinate_limit}
use Rattle.polygonize.specs.declared.column.Columns.{Columns}
use Rattle.polygonize.specs.Next.{edge_at}

-- the vertex stands in one of the columns
abbrev pub IsIn : Columns → Pt → Type 0
IsIn columns v = (columns.low ≤ℤ v.x) × (v.x ≤ℤ columns.high)

-- the columns are within the limit, and the vertices that are asked for stand in them
pub record AreColumnsOf (vertices : List Pt) (asked : List ℕ) (columns : Columns) : Type 0 where
  pub low_in : IsWithin coordinate_limit columns.low
  pub high_in : IsWithin coordinate_limit columns.high
  pub each : All (λ r. IsIn columns (slice_index_or vertices r (record { x = pos 0; y = pos 0 }))) asked

-- the edge begins left of all columns, and ends in the last one or right of it
abbrev pub Spans : DirectedEdge → Columns → Type 0
Spans d columns = ((d.from.x <ℤ columns.low) × (columns.high ≤ℤ d.to.x)) ⊎ ((d.to.x <ℤ columns.low) × (columns.high ≤ℤ d.from.x))

-- the edge begins left of one of the columns, and ends there or right of it
abbrev pub Meets : DirectedEdge → Columns → Type 0
Meets d columns = ((d.from.x <ℤ columns.high) × (columns.low ≤ℤ d.to.x)) ⊎ ((d.to.x <ℤ columns.high) × (columns.low ≤ℤ d.from.x))

-- those of the numbers whose edges don't span all columns, and meet some of a part of them, are among the found ones
abbrev pub HasMeeting : List DirectedEdge → Columns → Columns → List ℕ → List ℕ → Type 0
HasMeeting ds all part numbers found = (k : ℕ) → Contains numbers k → ¬ (Spans (edge_at ds k) all) → Meets (edge_at ds k) part → Contains found k

-- the column of a vertex alone
abbrev pub column_of : Pt → Columns
column_of v = record { low = v.x; high = v.x }

-- the vertices stand from left to right
abbrev pub StandFromLeft : List Pt → Type 0
StandFromLeft vertices = (i j : ℕ) → i ≤ j → j < length vertices → (slice_index_or vertices i (record { x = pos 0; y = pos 0 })).x ≤ℤ (slice_index_or vertices j (record { x = pos 0; y = pos 0 })).x

-- the vertices in whose columns the edge lies stand among those from one place to before another one
pub record StandsOver (d : DirectedEdge) (vertices : List Pt) (from past : ℕ) : Type 0 where
  pub ordered : from ≤ past
  pub inside : past ≤ length vertices
  pub each : (r : ℕ) → r < length vertices → Meets d (column_of (slice_index_or vertices r (record { x = pos 0; y = pos 0 }))) → (from ≤ r) × (r < past)
