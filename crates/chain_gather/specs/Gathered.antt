-- What is gathered from the tiles of a grid by a book of their pieces (own).
use Rattle.std.specs.Prelude.{◌≡◌, ◌↔◌, ℕ, ◌<◌, ◌≤◌, ◌==◌, ◌&&◌, Bool, List, AllPairs, Contains, Option, Some, length, slice_get}
use Rattle.geom.specs.declared.point.Pt.{Pt}
use Rattle.geom.specs.declared.rect.Rect.{Rect}
use Rattle.geom.specs.declared.segment.Seg.{Seg}
use Rattle.geom.specs.Segments.{same_point, same_source}
use Rattle.geom.specs.Box.{IsInBox, greatest_corner, least_corner}
use Rattle.grid.specs.Tiles.{Tiling, Owns}
use Rattle.tiling.specs.Index.{AreIndexed}
use Rattle.tiling.specs.Bins.{Binned}
use Rattle.hot_region.specs.Rects.{IsIn}
use Rattle.routing.specs.declared.record.Record.{Record}
use Rattle.routing.specs.declared.record.Candidate.{Candidate}
use Rattle.routing.specs.declared.pieces.Piece.{Piece}
use Rattle.linking.specs.Gathered.{AreBoxesBy, AreTileNumbers, HasTilesBelow, box_corners}
use Rattle.linking.specs.declared.rounded.TileNumbers.{TileNumbers}

-- ---- what a caller hands in

-- the bins are those of the items' boxes over the grid
pub record AreBinsBy {X : Type 0} (box : X → Pt × Pt) (g : Tiling) (items : List X) (bins : Binned) : Type 0 where
  pub grid_is : bins.grid ≡ g
  pub boxes : List Rect
  pub are_boxes : AreBoxesBy box items boxes
  pub indexed : AreIndexed boxes bins.items

-- the bins are those of the segments' boxes over the grid
abbrev pub AreBinsOf : Tiling → List Seg → Binned → Type 0
AreBinsOf g segments bins = AreBinsBy box_corners g segments bins

-- ---- which pieces of a book count

-- c is the segment of its number, and the segment's box has a point that tile k owns
pub record IsNear (g : Tiling) (segments : List Seg) (k : ℕ) (c : Candidate) : Type 0 where
  pub is_at : slice_get segments c.number ≡ Some c.segment
  pub point : Pt
  pub in_box : IsInBox (least_corner c.segment.a c.segment.b) (greatest_corner c.segment.a c.segment.b) point
  pub owned : Owns g k point

abbrev pub IsNumberedBefore : Candidate → Candidate → Type 0
IsNumberedBefore c d = c.number < d.number

-- the segments whose boxes have a point that tile k owns, ascending by number
pub record AreTileCandidates (g : Tiling) (segments : List Seg) (k : ℕ) (candidates : List Candidate) : Type 0 where
  pub ascending : AllPairs IsNumberedBefore candidates
  pub exact : (c : Candidate) → Contains candidates c ↔ IsNear g segments k c

-- whether c is s with this number, by comparisons
abbrev pub is_candidate : Candidate → ℕ → Seg → Bool
is_candidate c number s = (c.number == number) && same_point c.segment.a s.a && same_point c.segment.b s.b && same_source c.segment.layer s.layer

-- the piece was made from what tile k has: its rectangle and its candidates
pub record IsOwn {A : Type 0} (g : Tiling) (segments : List Seg) (k : ℕ) (piece : Piece A) : Type 0 where
  pub tile : (p : Pt) → IsIn piece.tile p ↔ Owns g k p
  pub candidates : AreTileCandidates g segments k piece.candidates.items

-- place k holds a piece that was made from what tile k has
pub record HoldsOwn {A : Type 0} (g : Tiling) (segments : List Seg) (held : List (Option (Piece A))) (k : ℕ) : Type 0 where
  pub piece : Piece A
  pub is_at : slice_get held k ≡ Some (Some piece)
  pub own : IsOwn g segments k piece

-- n is how many numbers below limit have P
pub record IsCountBelow (limit : ℕ) (P : ℕ → Type 0) (n : ℕ) : Type 0 where
  pub those : List ℕ
  pub ascending : AllPairs (λ i j. i < j) those
  pub exact : (k : ℕ) → Contains those k ↔ ((k < limit) × P k)
  pub number_is : n ≡ length those

-- ---- what tiles have

-- records and numbers of the tiles below k, and how many of them the book had no piece for
pub record AreGathered {A : Type 0} (g : Tiling) (segments : List Seg) (held : List (Option (Piece A))) (k : ℕ) (records : List Record) (tiles : List TileNumbers) (remade : ℕ) : Type 0 where
  pub records_are : ∥ HasTilesBelow g segments k records ∥₁
  pub tiles_are : AreTileNumbers g segments k tiles
  pub remade_is : IsCountBelow k (λ j. ¬ (HoldsOwn g segments held j)) remade
  pub few : remade ≤ k
