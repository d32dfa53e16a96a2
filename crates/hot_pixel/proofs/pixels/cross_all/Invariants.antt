use Rattle.std.proofs.Common.{take, ◌+◌, ◌≤◌}
use Rattle.std.specs.Prelude.{count_by}
use Rattle.hot_region.specs.Lines.{HasCrossed}
use Rattle.hot_pixel.specs.Pairs.{lines_meet}
use Rattle.hot_pixel.proofs.pixels.cross_all.Given as goal

abbrev pub invariant-loop-other : goal.invariant-loop-other
invariant-loop-other g l = HasCrossed l.tile l.line (take l.other-index l.others) l.initial.found.items l.found.items × (l.count ≤ l.initial.count + count_by (lines_meet l.line) (take l.other-index l.others)) × (l.initial.count ≤ l.count)
