-- Areas (own), as whole numbers: twice an area in grid units.
use Rattle.std.specs.Prelude.{◌≡◌, ◌↔◌, ◌&&◌, ℕ, ℤ, pos, ◌+ℤ◌, ◌-ℤ◌, ◌*ℤ◌, true, not, List, [], ◌∷◌, AllPairs, Contains, filter, flat_map}
use Rattle.geom.specs.declared.edge.Edge.{Edge}
use Rattle.geom.specs.declared.directed.DirectedEdge.{DirectedEdge}
use Rattle.geom.specs.Canonical.{Shape, written_rings}
use Rattle.geom.specs.Directed.{IsDirectedBefore, RunsAlong}
use Rattle.geom.specs.Parity.{parity}
use Rattle.geom.specs.ResultEdges.{left_side, right_side}
use Rattle.geom.specs.Rings.{ring_edges}
use Rattle.cover_law.specs.Cover.{Bordered, border, edges_in, has}
use Rattle.cover_law.specs.Rows.{Row}

abbrev pub sum_of : {X : Type 0} → (X → ℤ) → List X → ℤ
sum_of f [] = pos 0
sum_of f (x ∷ xs) = f x +ℤ sum_of f xs

-- twice the area of the triangle that the edge makes with the origin, above 0 where it turns to the left
abbrev pub side_area : DirectedEdge → ℤ
side_area d = (d.from.x *ℤ d.to.y) -ℤ (d.from.y *ℤ d.to.x)

-- twice the area that directed edges bound on their left
abbrev pub twice_area : List DirectedEdge → ℤ
twice_area directed = sum_of side_area directed

-- twice the area of polygons, by the sides of their rings
abbrev pub area_of : List Shape → ℤ
area_of polygons = twice_area (flat_map ring_edges (written_rings polygons))

abbrev pub row_area : Row → ℤ
row_area row = area_of row.polygons

-- d runs along one of the edges, with the feature on its left and not on its right
pub record IsFeatureEdge (edges : List Bordered) (f : ℕ) (d : DirectedEdge) : Type 0 where
  pub edge : Edge
  pub rounded : Contains (edges_in edges) edge
  pub runs : RunsAlong d edge
  pub bounds : parity (border f edges) (left_side d.from d.to) && not (parity (border f edges) (right_side d.from d.to)) ≡ true

-- the directed edges of a feature as it was rounded, ascending, and no others
pub record AreFeatureEdges (edges : List Bordered) (f : ℕ) (directed : List DirectedEdge) : Type 0 where
  pub ascending : AllPairs IsDirectedBefore directed
  pub exact : (d : DirectedEdge) → Contains directed d ↔ IsFeatureEdge edges f d

-- the rows that have a feature
abbrev pub rows_with : ℕ → List Row → List Row
rows_with f rows = filter (λ r. has f r.set) rows
