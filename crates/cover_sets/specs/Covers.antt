-- The cover sets on both sides of rounded edges, by their numbers (own).
use Rattle.std.specs.Prelude.{◌≡◌, ℕ, List, Some, length, slice_get}
use Rattle.geom.specs.Pixel.{Point}
use Rattle.geom.specs.ResultEdges.{left_side, right_side}
use Rattle.geom.specs.declared.point.Pt.{Pt}
use Rattle.cover_law.specs.Cover.{Bordered, cover}
use Rattle.cover_sets.specs.Sets.{AreSets, IsListed}

-- the numbers of the cover sets on one side of each edge, in the order of the edges
pub record AreCoversOf (side : Pt → Pt → Point) (count : ℕ) (edges : List Bordered) (sets : List (List ℕ)) (numbers : List ℕ) : Type 0 where
  pub one_each : length numbers ≡ length edges
  pub each : (k : ℕ) (b : Bordered) (n : ℕ) → slice_get edges k ≡ Some b → slice_get numbers k ≡ Some n → IsListed sets (cover count edges (side b.edge.p b.edge.q)) n

-- and on both sides
pub record AreCovers (count : ℕ) (edges : List Bordered) (sets : List (List ℕ)) (left right : List ℕ) : Type 0 where
  pub are_sets : AreSets sets
  pub left_is : AreCoversOf left_side count edges sets left
  pub right_is : AreCoversOf right_side count edges sets right
