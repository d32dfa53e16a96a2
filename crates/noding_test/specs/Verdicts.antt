-- Bad pairs of edges, the tiles that they belong to, and the least of them (own).
use Rattle.std.specs.Prelude.{◌≡◌, ◌<◌, ℕ, List, All, AllPairs, Contains, MatchOption, Option, Some, length, slice_get}
use Rattle.std.specs.List.{filter_map}
use Rattle.std.specs.Option.{option_map}
use Rattle.geom.specs.declared.point.Pt.{Pt}
use Rattle.geom.specs.declared.edge.Edge.{Edge}
use Rattle.geom.specs.declared.edge.Counted.{Counted}
use Rattle.geom.specs.Box.{IsInBox, greatest_corner, least_corner}
use Rattle.geom.specs.EdgeOrder.{IsEdgeBefore}
use Rattle.geom.specs.Noded.{IsBad, IsPairBefore}
use Rattle.grid.specs.Tiles.{Tiling, Owns}

-- the least corner of the rectangle that the boxes of two edges have in common, where they have one
abbrev pub common_corner : Edge → Edge → Pt
common_corner e f = greatest_corner (least_corner e.p e.q) (least_corner f.p f.q)

-- two of the edges, the lesser one first, are bad, and the common rectangle of their boxes begins in an owned point
pub record IsOwnBad (Owned : Pt → Type 0) (edges : List Edge) (e f : Edge) : Type 0 where
  pub e_in : Contains edges e
  pub f_in : Contains edges f
  pub ordered : IsEdgeBefore e f
  pub bad : IsBad e f
  pub owned : Owned (common_corner e f)

-- there is no pair of which P holds, or this one is the first
abbrev pub IsLeastPair : (Edge → Edge → Type 0) → Option (Edge × Edge) → Type 0
IsLeastPair P found = MatchOption found ((e f : Edge) → ¬ (P e f)) (λ pair. P pair.0 pair.1 × ((e f : Edge) → P e f → ¬ (IsPairBefore e f pair.0 pair.1)))

-- the edge of this number
abbrev pub edge_at : List Counted → ℕ → Option Edge
edge_at counted k = option_map (λ c. c.edge) (slice_get counted k)

-- the edges of these numbers
abbrev pub chosen_edges : List Counted → List ℕ → List Edge
chosen_edges counted numbers = filter_map (edge_at counted) numbers

-- numbers of edges, ascending, those of all edges whose box has a point that the tile owns among them
pub record AreNear (g : Tiling) (k : ℕ) (counted : List Counted) (numbers : List ℕ) : Type 0 where
  pub ascending : AllPairs (λ i j. i < j) numbers
  pub below : All (λ n. n < length counted) numbers
  pub complete : (n : ℕ) (c : Counted) (p : Pt) → slice_get counted n ≡ Some c → IsInBox (least_corner c.edge.p c.edge.q) (greatest_corner c.edge.p c.edge.q) p → Owns g k p → Contains numbers n
