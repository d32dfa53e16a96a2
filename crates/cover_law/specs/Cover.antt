-- Features and what covers a point (own). The features of all layers are numbered from 0, those of the first layer first.
use Rattle.std.specs.Prelude.{◌==◌, ◌||◌, ℕ, zero, suc, Bool, false, List, [], ◌∷◌, All, AllPairs, filter, map, slice_range}
use Rattle.geom.specs.declared.edge.Edge.{Edge}
use Rattle.cover_law.specs.declared.border.Border.{Border}
use Rattle.geom.specs.EdgeOrder.{IsEdgeBefore}
use Rattle.geom.specs.Limit.{AreInLimit}
use Rattle.geom.specs.Noded.{IsNoded}
use Rattle.geom.specs.Parity.{parity}
use Rattle.geom.specs.Pixel.{Point}
use Rattle.geom.specs.Rounded.{HasEvenDegrees}

-- a rounded edge, and the features in which its count is odd
pub record Bordered : Type 0 where
  pub edge : Edge
  pub features : List ℕ

-- the edge with its features, which stand among those of all edges
abbrev pub bordered : List ℕ → Border → Bordered
bordered features b = record { edge = b.edge; features = slice_range features b.from b.to }

abbrev pub edge_in : Bordered → Edge
edge_in b = b.edge

abbrev pub edges_in : List Bordered → List Edge
edges_in edges = map edge_in edges

-- whether a number is among these
abbrev pub has : ℕ → List ℕ → Bool
has f [] = false
has f (g ∷ gs) = (f == g) || has f gs

-- the border of a feature as it was rounded: a feature is read by parity over it, as a layer is
abbrev pub border : ℕ → List Bordered → List Edge
border f edges = edges_in (filter (λ b. has f b.features) edges)

-- so many numbers from k on
abbrev pub numbers_from : ℕ → ℕ → List ℕ
numbers_from k zero = []
numbers_from k (suc n) = k ∷ numbers_from (suc k) n

-- the cover set of z: of the first `count` features those in which z lies by parity, ascending
abbrev pub cover : ℕ → List Bordered → Point → List ℕ
cover count edges z = filter (λ f. parity (border f edges) z) (numbers_from 0 count)

-- edges with the features whose border they are: ascending, noded and within the coordinate limit, with even degrees in each border
pub record AreBorders (edges : List Bordered) : Type 0 where
  pub ascending : AllPairs (λ b c. IsEdgeBefore b.edge c.edge) edges
  pub in_limit : All (λ e. AreInLimit e.p e.q) (edges_in edges)
  pub noded : IsNoded (edges_in edges)
  pub even : (f : ℕ) → HasEvenDegrees (border f edges)
