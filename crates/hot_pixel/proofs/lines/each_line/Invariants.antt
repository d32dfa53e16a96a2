use Rattle.std.proofs.Common.{take}
use Rattle.hot_region.specs.Candidates.{chosen}
use Rattle.hot_pixel.specs.SegmentLines.{AreEachLine}
use Rattle.hot_pixel.proofs.lines.each_line.Given as goal

abbrev pub invariant-loop-number : goal.invariant-loop-number
invariant-loop-number g l = AreEachLine (chosen l.segments (take l.number-index l.numbers)) l.list.items
