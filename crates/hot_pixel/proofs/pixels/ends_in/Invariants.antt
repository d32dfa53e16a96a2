use Rattle.std.proofs.Common.{take}
use Rattle.hot_pixel.specs.SegmentLines.{HasEnds}
use Rattle.hot_pixel.proofs.pixels.ends_in.Given as goal

abbrev pub invariant-loop-line : goal.invariant-loop-line
invariant-loop-line g l = HasEnds l.tile (take l.line-index l.lines) l.found.items
