-- Two layers by their rings: their rounded edges, and the report on these (own).
use Rattle.std.specs.Prelude.{◌≡◌, ℕ, List, length}
use Rattle.geom.specs.Rounded.{AreRounded}
use Rattle.geom.specs.Segments.{AreSegments}
use Rattle.geom.specs.declared.edge.Counted.{Counted}
use Rattle.geom.specs.declared.point.Pt.{Pt}
use Rattle.geom.specs.declared.segment.Seg.{Seg}
use Rattle.grid.specs.Tiles.{Tiling, tile_count}
use Rattle.linking.specs.Gathered.{AreTileNumbers}
use Rattle.linking.specs.declared.rounded.TileNumbers.{TileNumbers}
use Rattle.layers.specs.declared.plan.Plan.{Plan}
use Rattle.results.specs.declared.text.Report.{Report}
use Rattle.engine.specs.Rounds.{IsRemade, TellsTiles}
use Rattle.layers.specs.Grids.{steps_count}
use Rattle.layers.specs.ColumnsRefusals.{AreRingsReady}

-- the counted edges are the rounded edges of the layers with these rings, and the tiles' numbers those of their pieces
pub record AreRingsRounded (rings_a rings_b : List (List Pt)) (g : Tiling) (counted : List Counted) (tiles : List TileNumbers) : Type 0 where
  pub segments : List Seg
  pub are_segments : AreSegments rings_a rings_b segments
  pub rounded : ∥ AreRounded segments counted ∥₁
  pub tiles_are : AreTileNumbers g segments (tile_count g) tiles

-- the report of these edges, as `ReportsWithin` has it of two texts: they are the rounded edges of the layers, and its numbers are those of
-- the segments, the edges, the hot pixels and the records, of each tile and in all; and no more pieces were made anew than a desk has places
pub record ReportsOnRings {M : Type 0} (limit : ℕ) (plan : Plan) (rings_a rings_b : List (List Pt)) (counted : List Counted) (report : Report M) : Type 0 where
  pub grid : Tiling
  pub ready : AreRingsReady limit plan rings_a rings_b grid
  pub segments_a : report.segments_a ≡ steps_count rings_a
  pub segments_b : report.segments_b ≡ steps_count rings_b
  pub edges : report.edges ≡ length counted
  pub tiles : List TileNumbers
  pub rounded : AreRingsRounded rings_a rings_b grid counted tiles
  pub told : TellsTiles tiles report.hot report.records report.tiles.items
  pub remade : IsRemade report.remade
