-- The nearest edge below a point.
use Rattle.std.specs.Int.{int_max, int_min}
use Rattle.std.specs.Prelude.{◌≡◌, ◌⊎◌, ◌+◌, ◌^◌, ◌<◌, ◌≤◌, ◌+ℤ◌, ◌*ℤ◌, ◌≤ℤ◌, ◌<ℤ◌, ℕ, ℤ, pos, true, List, [], Contains, Option, Some, None, IfSome, MatchOption, length, neg_ℤ, slice_index_or}
use Rattle.box_lanes.specs.Sides.{IsColumn}
use Rattle.geom.specs.declared.directed.DirectedEdge.{DirectedEdge}
use Rattle.geom.specs.declared.edge.Edge.{Edge}
use Rattle.geom.specs.declared.point.Pt.{Pt}
use Rattle.geom.specs.Directed.{RunsAlong}
use Rattle.geom.specs.Holes.{IsHole, IsNearestBelow, LiesBelow, height, left_of, run_of}
use Rattle.geom.specs.Limit.{IsWithin}
use Rattle.geom.specs.Parity.{covers}
use Rattle.geom.specs.Pixel.{Point}
use Rattle.polygonize.specs.declared.below.Gap.{Gap}
use Rattle.polygonize.specs.declared.column.Columns.{Columns}
use Rattle.polygonize.specs.Column.{Spans}
use Rattle.polygonize.specs.Next.{edge_at, first_vertex, ring_of}

-- d runs along e, and e lies below z
pub record RunsBelow (d : DirectedEdge) (z : Point) (e : Edge) : Type 0 where
  pub runs : RunsAlong d e
  pub over : covers e z ≡ true
  pub below : pos 0 <ℤ height e z

-- a gap, times its edge's run and 2 ^ 64
abbrev pub gap_height : Gap → ℤ
gap_height g = (pos (2 ^ 64) *ℤ g.side) +ℤ g.rise

-- what the comparison of gaps has room for: a run to the right, and distances as the limit allows them
pub record HasGapRoom (g : Gap) : Type 0 where
  pub some : pos 0 <ℤ g.run
  pub side_in : IsWithin (2 ^ 59) g.side
  pub run_in : IsWithin (2 ^ 29) g.run
  pub rise_in : IsWithin (2 ^ 29) g.rise

-- g is the gap from an edge along which d runs up to the point just left of v
pub record IsGap (d : DirectedEdge) (v : Pt) (g : Gap) : Type 0 where
  pub edge : Edge
  pub below : RunsBelow d (left_of v) edge
  pub height_is : height edge (left_of v) ≡ gap_height g
  pub run_is : run_of edge ≡ g.run
  pub room : HasGapRoom g

-- the first gap is the less
abbrev pub IsLessGap : Gap → Gap → Type 0
IsLessGap e f = (gap_height e *ℤ f.run) <ℤ (gap_height f *ℤ e.run)

-- the lesser of two gaps, and the first of equal ones
abbrev pub IsLesserGap : Option Gap → Option Gap → Option Gap → Type 0
IsLesserGap None found result = result ≡ found
IsLesserGap (Some e) None result = result ≡ Some e
IsLesserGap (Some e) (Some f) result = ((result ≡ Some f) × IsLessGap f e) ⊎ ((result ≡ Some e) × ¬ (IsLessGap f e))

-- the best gap is at most that of d at the point just left of v, if d lies below it
abbrev pub IsAsNear : DirectedEdge → Pt → Option Gap → Type 0
IsAsNear d v None = (f : Edge) → ¬ (RunsBelow d (left_of v) f)
IsAsNear d v (Some g) = (f : Edge) → RunsBelow d (left_of v) f → (gap_height g *ℤ run_of f) ≤ℤ (height f (left_of v) *ℤ g.run)

-- g is the gap of the edge that it names
pub record IsGapOf (ds : List DirectedEdge) (v : Pt) (g : Gap) : Type 0 where
  pub inside : g.number < length ds
  pub gap : IsGap (edge_at ds g.number) v g

-- the gap is that of a nearest edge below the point just left of v, or none lies there
abbrev pub IsFoundBelow : List DirectedEdge → Pt → Option Gap → Type 0
IsFoundBelow ds v best = MatchOption best ((e : Edge) → ¬ (LiesBelow ds (left_of v) e)) (λ g. (g.number < length ds) × IsNearestBelow ds (left_of v) (edge_at ds g.number))

-- ---- many vertices, by their places

abbrev pub vertex_at : List Pt → ℕ → Pt
vertex_at vertices r = slice_index_or vertices r (record { x = pos 0; y = pos 0 })

abbrev pub best_at : List (Option Gap) → ℕ → Option Gap
best_at best r = slice_index_or best r None

-- each gap is that of an edge below its vertex
abbrev pub AreKnown : List DirectedEdge → List Pt → List (Option Gap) → Type 0
AreKnown ds vertices best = (r : ℕ) → IfSome (best_at best r) (λ g. IsGapOf ds (vertex_at vertices r) g)

-- ---- floors

-- the row of an edge's lowest point
abbrev pub lowest_row : DirectedEdge → ℤ
lowest_row d = int_min d.from.y d.to.y

-- the row of its highest point
abbrev pub highest_row : DirectedEdge → ℤ
highest_row d = int_max d.from.y d.to.y

-- the least row of 32 bits
abbrev pub least_row : ℤ
least_row = neg_ℤ (pos (2 ^ 31))

-- no point of the edge of a gap lies below its floor; where there is no gap, the floor is the least row
abbrev pub IsFloor : List DirectedEdge → Option Gap → ℤ → Type 0
IsFloor ds None floor = floor ≡ least_row
IsFloor ds (Some g) floor = (least_row ≤ℤ floor) × (floor ≤ℤ lowest_row (edge_at ds g.number))

abbrev pub floor_at : List ℤ → ℕ → ℤ
floor_at floors r = slice_index_or floors r (pos 0)

-- each gap has a floor, and sixteen numbers more stand behind them
pub record AreFloors (ds : List DirectedEdge) (best : List (Option Gap)) (floors : List ℤ) : Type 0 where
  pub room : length floors ≡ length best + 16
  pub column : IsColumn floors
  pub each : (r : ℕ) → r < length best → IsFloor ds (best_at best r) (floor_at floors r)

-- ---- what edges do to gaps

-- no gap grows, and those of the vertices for which Asked holds are now at most those of the edges for which P holds
pub record AreNearerFor (ds : List DirectedEdge) (vertices : List Pt) (Asked P : ℕ → Type 0) (old new : List (Option Gap)) : Type 0 where
  pub same_length : length new ≡ length old
  pub known : AreKnown ds vertices new
  pub kept : (r : ℕ) (d : DirectedEdge) → IsAsNear d (vertex_at vertices r) (best_at old r) → IsAsNear d (vertex_at vertices r) (best_at new r)
  pub near : (r : ℕ) → Asked r → (k : ℕ) → P k → IsAsNear (edge_at ds k) (vertex_at vertices r) (best_at new r)

-- for the edges at the numbers
abbrev pub AreNearer : List DirectedEdge → List Pt → List ℕ → List ℕ → List (Option Gap) → List (Option Gap) → Type 0
AreNearer ds vertices asked numbers old new = AreNearerFor ds vertices (Contains asked) (Contains numbers) old new

-- for those of them that span the columns
abbrev pub AreNearerSpanning : List DirectedEdge → List Pt → List ℕ → List ℕ → Columns → List (Option Gap) → List (Option Gap) → Type 0
AreNearerSpanning ds vertices asked numbers columns old new = AreNearerFor ds vertices (Contains asked) (λ k. Contains numbers k × Spans (edge_at ds k) columns) old new

-- for the edge with this number, and the vertices from one place to before another one
abbrev pub AreNearerWithin : List DirectedEdge → List Pt → ℕ → ℕ → ℕ → List (Option Gap) → List (Option Gap) → Type 0
AreNearerWithin ds vertices number from past old new = AreNearerFor ds vertices (λ r. (from ≤ r) × (r < past)) (λ k. k ≡ number) old new

-- the gap of each vertex is at most that of the edge with this number
abbrev pub IsTaken : List DirectedEdge → List Pt → List (Option Gap) → ℕ → Type 0
IsTaken ds vertices best k = (r : ℕ) → r < length vertices → IsAsNear (edge_at ds k) (vertex_at vertices r) (best_at best r)

-- each of the first n edges is left, or its gaps are taken into account
pub record AreTakenBut (ds : List DirectedEdge) (vertices : List Pt) (n : ℕ) (left : List ℕ) (old new : List (Option Gap)) : Type 0 where
  pub same_length : length new ≡ length old
  pub known : AreKnown ds vertices new
  pub each : (k : ℕ) → k < n → Contains left k ⊎ IsTaken ds vertices new k

-- each gap is that of a nearest edge below its vertex
pub record AreGapsBelow (ds : List DirectedEdge) (vertices : List Pt) (best : List (Option Gap)) : Type 0 where
  pub same_length : length best ≡ length vertices
  pub each : (r : ℕ) → r < length vertices → IsFoundBelow ds (vertex_at vertices r) (best_at best r)

-- the place of the edge of a gap
abbrev pub place_of : Option Gap → Option ℕ
place_of None = None
place_of (Some g) = Some g.number

-- below v, of the edges, the one at the place is a nearest one, or none lies there
abbrev pub IsEdgeBelow : List DirectedEdge → Pt → Option ℕ → Type 0
IsEdgeBelow ds v None = (e : Edge) → ¬ (LiesBelow ds (left_of v) e)
IsEdgeBelow ds v (Some k) = (k < length ds) × IsNearestBelow ds (left_of v) (edge_at ds k)

-- each place is that of a nearest edge below its vertex
pub record AreEdgesBelow (ds : List DirectedEdge) (vertices : List Pt) (below : List (Option ℕ)) : Type 0 where
  pub same_length : length below ≡ length vertices
  pub each : (r : ℕ) → r < length vertices → IsEdgeBelow ds (vertex_at vertices r) (slice_index_or below r None)

-- the gaps stand in a list at the given numbers
abbrev pub StandAt : List ℕ → List (Option Gap) → List (Option Gap) → Type 0
StandAt numbers gaps best = (k : ℕ) → k < length numbers → best_at best (slice_index_or numbers k 0) ≡ best_at gaps k

-- for each cycle whose ring is a hole the nearest edge below its first vertex is found
pub record AreFoundBelow (ds : List DirectedEdge) (cycles : List (List ℕ)) (best : List (Option Gap)) : Type 0 where
  pub same_length : length best ≡ length cycles
  pub each : (r : ℕ) → r < length cycles → IsHole (ring_of ds (slice_index_or cycles r [])) → IsFoundBelow ds (first_vertex ds cycles r) (best_at best r)
