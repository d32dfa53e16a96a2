use Rattle.std.proofs.Common.{take}
use Rattle.hot_region.specs.Walls.{AreKept}
use Rattle.hot_region.proofs.region.all_behind.Given as goal

abbrev pub invariant-loop-pixel : goal.invariant-loop-pixel
invariant-loop-pixel g l = AreKept l.walls (take l.pixel-index l.pixels) l.list.items
