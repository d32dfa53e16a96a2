use Rattle.std.proofs.Common.{◌≡◌, length}
use Rattle.std.specs.Prelude.{IfSome}
use Rattle.grid.specs.Tiles.{tile_count}
use Rattle.linking.specs.Numbers.{HasOwned}
use Rattle.linking.proofs.Counted.{AreCountedTo}
use Rattle.linking.proofs.numbers.count_pixels.Given as goal

abbrev pub invariant-loop-pixel : goal.invariant-loop-pixel
invariant-loop-pixel g l =
    AreCountedTo l.grid l.pixels l.fn.counts.counts.items l.pixel-index l.counts.counts.items × (length l.counts.counts.items ≡ tile_count l.grid) × IfSome l.counts.last (HasOwned l.grid)
