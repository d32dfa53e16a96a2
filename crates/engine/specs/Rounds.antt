-- The bins of cells, and what of the segments of two layers is rounded (own).
use Rattle.std.specs.Prelude.{◌≡◌, ◌≤◌, ℕ, List, map, sum_by}
use Rattle.geom.specs.Rounded.{AreRounded}
use Rattle.geom.specs.declared.edge.Counted.{Counted}
use Rattle.geom.specs.declared.rect.Rect.{Rect}
use Rattle.geom.specs.declared.segment.Seg.{Seg}
use Rattle.grid.specs.Tiles.{Tiling, tile_count}
use Rattle.grid.specs.Bins.{AreBins, AreRowBins, TileBins, TileRows}
use Rattle.linking.specs.Gathered.{AreBoxesOf, AreTileNumbers}
use Rattle.linking.specs.declared.rounded.TileNumbers.{TileNumbers}
use Rattle.tile_book.specs.declared.draw.TheConstants.{MOST_NUMBERS}
use Rattle.layers.specs.Segments.{AreSegmentsOf}

-- ---- the cells

-- the bins of a grid's tiles are those of the segments' boxes
pub record AreCellBins (g : Tiling) (segments : List Seg) (bins : TileBins) : Type 0 where
  pub grid_is : bins.grid ≡ g
  pub boxes : List Rect
  pub are_boxes : AreBoxesOf segments boxes
  pub are_bins : AreBins boxes bins

-- the bins of the tiles in a grid's rows from one to below another are those of the segments' boxes
pub record AreCellRows (g : Tiling) (from past : ℕ) (segments : List Seg) (bins : TileRows) : Type 0 where
  pub grid_is : bins.grid ≡ g
  pub from_is : bins.from ≡ from
  pub past_is : bins.past ≡ past
  pub boxes : List Rect
  pub are_boxes : AreBoxesOf segments boxes
  pub are_bins : AreRowBins boxes bins

-- ---- what is rounded

-- the counted edges are the rounded edges of the layers of two texts, and the tiles' numbers those of their pieces
pub record AreRoundedOver (a b : List ℕ) (g : Tiling) (counted : List Counted) (tiles : List TileNumbers) : Type 0 where
  pub segments : List Seg
  pub are_segments : AreSegmentsOf a b segments
  pub rounded : ∥ AreRounded segments counted ∥₁
  pub tiles_are : AreTileNumbers g segments (tile_count g) tiles

-- so many pieces can be made anew: a desk has no more places
abbrev pub IsRemade : ℕ → Type 0
IsRemade remade = remade ≤ MOST_NUMBERS

-- the numbers of each tile, and their sums
pub record TellsTiles (tiles : List TileNumbers) (hot records : ℕ) (told : List (ℕ × ℕ)) : Type 0 where
  pub told_is : told ≡ map (λ t. (t.hot, t.records)) tiles
  pub hot_is : hot ≡ sum_by (λ t. t.hot) tiles
  pub records_is : records ≡ sum_by (λ t. t.records) tiles
