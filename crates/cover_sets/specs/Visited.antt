-- Edges that have the numbers of their cover sets already (own).
use Rattle.std.specs.Prelude.{◌≡◌, ◌<◌, ℕ, List, [], All, Option, None, Some, slice_get, slice_index}
use Rattle.geom.specs.declared.edge.Edge.{Edge}
use Rattle.geom.specs.ResultEdges.{left_side, right_side}
use Rattle.cover_law.specs.Cover.{Bordered, cover}
use Rattle.cover_sets.specs.Sets.{IsListed}

-- Where the edge stands in the list, its numbers are those of its cover sets: of however many features, if only all that are a border's are among them.
pub record IsVisited (features : List ℕ) (edges : List Bordered) (sets : List (List ℕ)) (left right : List ℕ) (e : Edge) : Type 0 where
  pub left_is : (count : ℕ) → All (λ f. f < count) features → (k : ℕ) (b : Bordered) → slice_get edges k ≡ Some b → b.edge ≡ e → IsListed sets (cover count edges (left_side e.p e.q)) (slice_index left k)
  pub right_is : (count : ℕ) → All (λ f. f < count) features → (k : ℕ) (b : Bordered) → slice_get edges k ≡ Some b → b.edge ≡ e → IsListed sets (cover count edges (right_side e.p e.q)) (slice_index right k)

-- the edge beside another one, if there is one
abbrev pub IsBesideVisited : List ℕ → List Bordered → List (List ℕ) → List ℕ → List ℕ → Option Edge → Type 0
IsBesideVisited features edges sets left right None = Unit {0}
IsBesideVisited features edges sets left right (Some f) = IsVisited features edges sets left right f

-- the cover set on the right of an edge, or the empty one where there is no edge
abbrev pub cover_beside : ℕ → List Bordered → Option Edge → List ℕ
cover_beside count edges None = []
cover_beside count edges (Some f) = cover count edges (right_side f.p f.q)
