use Rattle.std.proofs.Common.{take, ◌+◌, ◌≤◌}
use Rattle.hot_region.specs.Lines.{HasAllCrossed}
use Rattle.hot_pixel.specs.Pairs.{line_pairs}
use Rattle.hot_pixel.proofs.SweepLaws.{AreActive}
use Rattle.hot_pixel.proofs.tile_sweep.cross_lines.Given as goal

abbrev pub invariant-loop-line : goal.invariant-loop-line
invariant-loop-line g l = AreActive l.lines l.line-index l.active.items × HasAllCrossed l.tile (take l.line-index l.lines) l.initial.found.items l.found.items × (l.count ≤ l.initial.count + line_pairs (take l.line-index l.lines)) × (l.initial.count ≤ l.count)
