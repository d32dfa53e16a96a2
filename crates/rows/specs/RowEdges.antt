-- The directed edges of all rows, each with the number of the cover set on its left (own).
use Rattle.std.specs.Prelude.{◌≡◌, ◌≢◌, ◌⊎◌, ◌<◌, ◌==◌, ℕ, true, if◌then◌else◌, List, [], ◌∷◌, ◌++◌, All, AllPairs, Contains, map}
use Rattle.geom.specs.declared.directed.DirectedEdge.{DirectedEdge}
use Rattle.geom.specs.Directed.{IsDirectedBefore, from_to}
use Rattle.cover_law.specs.declared.border.Border.{Border}
use Rattle.cover_law.specs.Changing.{has_some}
use Rattle.cover_law.specs.Cover.{AreBorders, Bordered, bordered}
use Rattle.cover_law.specs.Rows.{IsRowEdge}
use Rattle.cover_sets.specs.Covers.{AreCovers}
use Rattle.cover_sets.specs.Sets.{IsListed, IsNumber, set_of}
use Rattle.rows.specs.declared.edges.RowEdge.{RowEdge}

-- borders of features below `count`, each of some feature, and the numbers of the cover sets on their sides
pub record AreCoveredBorders (count : ℕ) (features : List ℕ) (borders : List Border) (sets : List (List ℕ)) (left right : List ℕ) : Type 0 where
  pub are_borders : AreBorders (map (bordered features) borders)
  pub some : All (λ b. has_some b.features ≡ true) (map (bordered features) borders)
  pub below : All (λ f. f < count) features
  pub covers : AreCovers count (map (bordered features) borders) sets left right

abbrev pub row_edge : ℕ → DirectedEdge → RowEdge
row_edge n d = record { set = n; edge = d }

-- by the number of the set, then by the edge
abbrev pub IsRowEdgeBefore : RowEdge → RowEdge → Type 0
IsRowEdgeBefore d e = (d.set < e.set) ⊎ ((d.set ≡ e.set) × IsDirectedBefore d.edge e.edge)

-- n is the number of a set that is not empty, and d a directed edge of its row
pub record IsEdgeOfRow (count : ℕ) (edges : List Bordered) (sets : List (List ℕ)) (n : ℕ) (d : DirectedEdge) : Type 0 where
  pub number : IsNumber sets n
  pub covered : set_of sets n ≢ []
  pub is_edge : IsRowEdge count edges (set_of sets n) d

-- the directed edges of all rows, in order, each with the number of its row's set
pub record AreEdgesOfRows (count : ℕ) (edges : List Bordered) (sets : List (List ℕ)) (list : List RowEdge) : Type 0 where
  pub ascending : AllPairs IsRowEdgeBefore list
  pub only : (e : RowEdge) → Contains list e → IsEdgeOfRow count edges sets e.set e.edge
  pub each : (set : List ℕ) (d : DirectedEdge) → set ≢ [] → IsRowEdge count edges set d → (n : ℕ) × IsListed sets set n × Contains list (row_edge n d)

-- ---- by the numbers on both sides
-- the edge with the number of the set on its left, unless that is empty
abbrev pub side : ℕ → DirectedEdge → List RowEdge
side n d = if n == 4294967295 then [] else row_edge n d ∷ []

-- both directions of all edges
abbrev pub sides : List Border → List ℕ → List ℕ → List RowEdge
sides [] ls rs = []
sides (b ∷ bs) [] rs = []
sides (b ∷ bs) (l ∷ ls) [] = []
sides (b ∷ bs) (l ∷ ls) (r ∷ rs) = (side l (from_to b.edge.p b.edge.q) ++ side r (from_to b.edge.q b.edge.p)) ++ sides bs ls rs
