-- The sets of row edges, each with where its edges stand (own).
use Rattle.std.specs.Prelude.{◌≡◌, ◌<◌, ◌≤◌, List, All, AllPairs, Contains, flat_map, length, map, slice_range}
use Rattle.geom.specs.declared.directed.DirectedEdge.{DirectedEdge}
use Rattle.rows.specs.declared.edges.RowEdge.{RowEdge}
use Rattle.rows.specs.declared.runs.RowSet.{RowSet}

-- the row edges of a set
abbrev pub run_of : List RowEdge → RowSet → List RowEdge
run_of edges r = slice_range edges r.from r.to

abbrev pub edge_of : RowEdge → DirectedEdge
edge_of e = e.edge

-- the directed edges of a set's row
abbrev pub edges_at : List RowEdge → RowSet → List DirectedEdge
edges_at edges r = map edge_of (run_of edges r)

-- row edges are the runs of their sets, one behind another; each has some, and the numbers of the sets ascend
pub record AreRowSets (edges : List RowEdge) (list : List RowSet) : Type 0 where
  pub some : All (λ r. (r.from < r.to) × (r.to ≤ length edges)) list
  pub same : (r : RowSet) → Contains list r → All (λ e. e.set ≡ r.set) (run_of edges r)
  pub together : flat_map (run_of edges) list ≡ edges
  pub ascending : AllPairs (λ r s. r.set < s.set) list
