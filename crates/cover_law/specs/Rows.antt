-- Rows (own): the points of one cover set, as one list of polygons.
use Rattle.std.specs.Prelude.{◌≡◌, ◌≢◌, ◌⊎◌, ◌↔◌, ◌<◌, ◌==◌, ◌&&◌, ◌||◌, ℕ, Bool, true, false, not, List, [], ◌∷◌, AllPairs, Contains, filter}
use Rattle.geom.specs.declared.point.Pt.{Pt}
use Rattle.geom.specs.declared.edge.Edge.{Edge}
use Rattle.geom.specs.declared.directed.DirectedEdge.{DirectedEdge}
use Rattle.geom.specs.Canonical.{ArePolygons, HaveEachEdge, Shape}
use Rattle.geom.specs.Directed.{IsDirectedBefore, RunsAlong}
use Rattle.geom.specs.Pixel.{Point}
use Rattle.geom.specs.ResultEdges.{left_side, right_side}
use Rattle.cover_law.specs.Cover.{Bordered, cover, edges_in, has, numbers_from}

-- whether two lists of numbers are one
abbrev pub same_list : List ℕ → List ℕ → Bool
same_list [] [] = true
same_list [] (g ∷ gs) = false
same_list (f ∷ fs) [] = false
same_list (f ∷ fs) (g ∷ gs) = (f == g) && same_list fs gs

-- whether the cover set of z is just this one
abbrev pub is_covered_by : ℕ → List Bordered → List ℕ → Point → Bool
is_covered_by count edges set z = same_list (cover count edges z) set

-- whether the edge directed from u to v has the points of that cover set on its left, and others on its right
abbrev pub bounds_row : ℕ → List Bordered → List ℕ → Pt → Pt → Bool
bounds_row count edges set u v = is_covered_by count edges set (left_side u v) && not (is_covered_by count edges set (right_side u v))

-- d runs along one of the edges, and bounds the points of that cover set
pub record IsRowEdge (count : ℕ) (edges : List Bordered) (set : List ℕ) (d : DirectedEdge) : Type 0 where
  pub edge : Edge
  pub rounded : Contains (edges_in edges) edge
  pub runs : RunsAlong d edge
  pub bounds : bounds_row count edges set d.from d.to ≡ true

-- the directed edges of that cover set, ascending, and no others
pub record AreRowEdges (count : ℕ) (edges : List Bordered) (set : List ℕ) (directed : List DirectedEdge) : Type 0 where
  pub ascending : AllPairs IsDirectedBefore directed
  pub exact : (d : DirectedEdge) → Contains directed d ↔ IsRowEdge count edges set d

-- a cover set, and the polygons of its points
pub record Row : Type 0 where
  pub set : List ℕ
  pub polygons : List Shape

-- by the first number in which they differ; a list goes before those that it is the front of
abbrev pub IsSetBefore : List ℕ → List ℕ → Type 0
IsSetBefore [] [] = ⊥
IsSetBefore [] (g ∷ gs) = Unit {0}
IsSetBefore (f ∷ fs) [] = ⊥
IsSetBefore (f ∷ fs) (g ∷ gs) = (f < g) ⊎ ((f ≡ g) × IsSetBefore fs gs)

-- the row of a cover set that is not empty and has edges
pub record IsRow (count : ℕ) (edges : List Bordered) (row : Row) : Type 0 where
  pub covered : row.set ≢ []
  pub directed : List DirectedEdge
  pub are_edges : AreRowEdges count edges row.set directed
  pub some : directed ≢ []
  pub are_polygons : ArePolygons directed row.polygons
  pub each_edge : HaveEachEdge directed row.polygons

-- the rows of all cover sets that have edges, but for the empty one, by their sets
pub record AreRows (count : ℕ) (edges : List Bordered) (rows : List Row) : Type 0 where
  pub ascending : AllPairs (λ r s. IsSetBefore r.set s.set) rows
  pub only : (row : Row) → Contains rows row → IsRow count edges row
  pub each : (set : List ℕ) (d : DirectedEdge) → set ≢ [] → IsRowEdge count edges set d → (row : Row) × Contains rows row × (row.set ≡ set)

-- ---- across an edge
abbrev pub differ : Bool → Bool → Bool
differ a b = (a && not b) || (not a && b)

-- the first `count` features that are in one of the two sets and not in both, ascending
abbrev pub beyond : ℕ → List ℕ → List ℕ → List ℕ
beyond count s t = filter (λ f. differ (has f s) (has f t)) (numbers_from 0 count)
