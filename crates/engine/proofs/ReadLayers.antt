-- What rounding asks of the segments that were read of two checked layers, and what it gives.
use Rattle.std.proofs.Common.{ℕ, List}
use Rattle.geom.specs.Rounded.{AreRounded}
use Rattle.geom.specs.declared.edge.Counted.{Counted}
use Rattle.geom.specs.declared.segment.Seg.{Seg}
use Rattle.grid.specs.Tiles.{Tiling, tile_count}
use Rattle.linking.specs.Gathered.{AreTileNumbers, HaveTiles}
use Rattle.linking.specs.declared.rounded.TileNumbers.{TileNumbers}
use Rattle.points_law.specs.Law.{AreLayers}
use Rattle.layers.specs.Refusals.{IsCheckedWithin}
use Rattle.layers.specs.Segments.{AllInLimit, AreSegmentsOf}
use Rattle.layers.specs.declared.plan.Plan.{Plan}
use Rattle.engine.specs.Rounds.{AreRoundedOver}
use Rattle.engine.proofs.Known.{ready_of}
use Rattle.engine.proofs.Rounding.{covered, layers_of}

module _ (limit : ℕ) (plan : Plan) (a b : List ℕ) (m n : ℕ) (g : Tiling) (known : ∥ IsCheckedWithin limit plan a b m n g ∥₁) (read : List Seg) (s : AreSegmentsOf a b read) where
  -- the tiles have every point of the boxes
  pub read_covered : HaveTiles g read
  read_covered = covered limit plan a b s.rings_a s.rings_b g read (ready_of limit plan a b m n g known read s) s

module _ (a b : List ℕ) (g : Tiling) (read : List Seg) (s : AreSegmentsOf a b read) (counted : List Counted) (rounded : ∥ AreRounded read counted ∥₁) where
  -- the rounded edges are those of the layers
  pub read_rounded : (tiles : List TileNumbers) → AreTileNumbers g read (tile_count g) tiles → AreRoundedOver a b g counted tiles
  read_rounded tiles are = record { segments = read; are_segments = s; rounded = rounded; tiles_are = are }

  -- and close
  pub read_layers : AllInLimit read → ∥ AreLayers counted ∥₁
  read_layers limits = layers_of a b read counted s limits rounded
