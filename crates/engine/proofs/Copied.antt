-- What segments that are kept with their copies tell of all segments.
use Rattle.std.proofs.Common.{◌≡◌, List, get_or, subst, sym}
use Rattle.std.proofs.Math.Logic.{∥∥₁_elim, ∥∥₁_map}
use Rattle.std.proofs.Props.{props}
use Rattle.std.proofs.lemmas.List.Elements.{All-contains, Contains-get_or}
use Rattle.geom.specs.Limit.{AreInLimit}
use Rattle.geom.specs.Noded.{IsNoded}
use Rattle.geom.specs.Rounded.{AreRounded, edges_of}
use Rattle.geom.specs.declared.edge.Counted.{Counted}
use Rattle.geom.specs.declared.segment.Seg.{Seg}
use Rattle.noding_law.proofs.Rounding.{rounded_noded}
use Rattle.distinct.specs.Copies.{AreCopies, AreCopiesRounded, all_copies}
use Rattle.distinct.specs.declared.copies.Copies.{Copies}
use Rattle.distinct_law.proofs.Copied.{copies_rounded}
use Rattle.grid.specs.Tiles.{Tiling, tile_count}
use Rattle.linking.specs.Gathered.{AreTileNumbers, AreTileNumbersBy, HaveTiles}
use Rattle.linking.specs.declared.rounded.TileNumbers.{TileNumbers}
use Rattle.linking.proofs.CopyNumbers.{numbers_of_copies}
use Rattle.layers.specs.Segments.{AllInLimit}

-- `list` and `times` are the slices of the kept segments and of their copies
module _ (segments kept list : List Seg) (copies times : List Copies) (list_is : list ≡ kept) (times_is : times ≡ copies) (given : AreCopies segments kept copies) where
  are : AreCopies segments list times
  are = subst (λ (cs : List Copies). AreCopies segments list cs) (sym times_is) (subst (λ (ss : List Seg). AreCopies segments ss copies) (sym list_is) given)

  pub kept_in_limit : AllInLimit segments → AllInLimit list
  kept_in_limit limits k d l = All-contains (λ (s : Seg). AreInLimit s.a s.b) segments (get_or list k d) limits (are.among (get_or list k d) (Contains-get_or list k d l))

  pub kept_covered : (g : Tiling) → HaveTiles g segments → HaveTiles g list
  kept_covered g covered s p has box = covered s p (are.among s has) box

  -- the rounded edges
  pub all_rounded : (counted : List Counted) → ∥ AreCopiesRounded list times counted ∥₁ → ∥ AreRounded segments counted ∥₁
  all_rounded counted r = ∥∥₁_map r (λ r. copies_rounded segments list times counted are r)

  pub all_noded : (counted : List Counted) → ∥ AreCopiesRounded list times counted ∥₁ → IsNoded (edges_of counted)
  all_noded counted r = ∥∥₁_elim (all_rounded counted r) (hlevel props) (λ r. rounded_noded segments counted r)

  -- the numbers of the tiles
  pub all_numbers : (g : Tiling) (tiles : List TileNumbers) → AreTileNumbersBy all_copies g list times (tile_count g) tiles → AreTileNumbers g segments (tile_count g) tiles
  all_numbers g tiles h = numbers_of_copies g segments list times are (tile_count g) tiles h
