-- Rows as they are made of the directed edges of their sets (own).
use Rattle.std.specs.Prelude.{◌≡◌, ◌<◌, ◌≤◌, ℕ, List, All, length, sum_by}
use Rattle.geom.specs.Canonical.{ArePolygons, HaveEachEdge}
use Rattle.geom.specs.Holes.{HasGroundedRings}
use Rattle.geom.specs.Limit.{AreInLimit}
use Rattle.geom.specs.NodedEdges.{AreNodedEdges}
use Rattle.geom.specs.Rings.{Closes}
use Rattle.cover_law.specs.Areas.{area_of}
use Rattle.cover_law.specs.Rows as law
use Rattle.cover_sets.specs.Sets.{AreSets, IsNumber, set_of}
use Rattle.rows.specs.declared.edges.RowEdge.{RowEdge}
use Rattle.rows.specs.declared.parts.Row.{Row}
use Rattle.rows.specs.declared.runs.RowSet.{RowSet}
use Rattle.rows.specs.RowSets.{AreRowSets, edges_at}

-- a row of the program, as the definition has it
abbrev pub row_of : {M : Type 0} → Row M → law.Row
row_of r = record { set = r.features.items; polygons = r.polygons.items }

-- how many features rows have together
abbrev pub ids_in : List law.Row → ℕ
ids_in rows = sum_by (λ r. length r.set) rows

-- the set has directed edges, which close and lie within the limit
pub record IsBound (sets : List (List ℕ)) (edges : List RowEdge) (r : RowSet) : Type 0 where
  pub some : r.from < r.to
  pub within : r.to ≤ length edges
  pub number : IsNumber sets r.set
  pub closes : Closes (edges_at edges r)
  pub in_limit : All (λ d. AreInLimit d.from d.to) (edges_at edges r)

-- what rows are made of: row edges by their sets
pub record AreReady (sets : List (List ℕ)) (edges : List RowEdge) (row_sets : List RowSet) : Type 0 where
  pub are_sets : AreSets sets
  pub are_row_sets : AreRowSets edges row_sets
  pub bound : All (IsBound sets edges) row_sets

-- a row has the features of its set, and the polygons of its directed edges with their area
pub record IsRowOf {M : Type 0} (sets : List (List ℕ)) (edges : List RowEdge) (r : RowSet) (row : Row M) : Type 0 where
  pub set_is : row.features.items ≡ set_of sets r.set
  pub are_polygons : AreNodedEdges (edges_at edges r) → HasGroundedRings (edges_at edges r) → ArePolygons (edges_at edges r) row.polygons.items
  pub each_edge : HaveEachEdge (edges_at edges r) row.polygons.items
  pub area_is : row.twice_area ≡ area_of row.polygons.items
