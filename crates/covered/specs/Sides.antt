-- The directed edges of a result, by the cover sets on both sides of edges (own).
use Rattle.std.specs.Prelude.{◌&&◌, ℕ, Bool, not, List, [], ◌∷◌, ◌++◌}
use Rattle.geom.specs.declared.op.Op.{Op}
use Rattle.geom.specs.declared.directed.DirectedEdge.{DirectedEdge}
use Rattle.geom.specs.Label.{ways}
use Rattle.geom.specs.Operations.{holds}
use Rattle.cover_law.specs.declared.border.Border.{Border}
use Rattle.cover_sets.specs.Sets.{set_of}
use Rattle.covered.specs.Covered.{has_of_a, has_of_b}

-- whether the operation holds of the points with this cover set
abbrev pub holds_of : Op → ℕ → List ℕ → Bool
holds_of op split set = holds op (has_of_a split set) (has_of_b split set)

-- whether an edge with these cover sets on its left and on its right bounds the result as it is directed, and whether as directed back
abbrev pub directions_of : Op → ℕ → List ℕ → List ℕ → Bool × Bool
directions_of op split left right = (holds_of op split left && not (holds_of op split right), holds_of op split right && not (holds_of op split left))

-- the directed edges along all borders, by the numbers of the cover sets on their left and on their right
abbrev pub directed_of : Op → ℕ → List (List ℕ) → List Border → List ℕ → List ℕ → List DirectedEdge
directed_of op split sets [] ls rs = []
directed_of op split sets (b ∷ bs) [] rs = []
directed_of op split sets (b ∷ bs) (l ∷ ls) [] = []
directed_of op split sets (b ∷ bs) (l ∷ ls) (r ∷ rs) = ways b.edge (directions_of op split (set_of sets l) (set_of sets r)) ++ directed_of op split sets bs ls rs
