use Rattle.std.proofs.Common.{take}
use Rattle.hot_region.specs.Halving.{AreReaching}
use Rattle.hot_region.specs.Rects.{IsIn}
use Rattle.hot_region.specs.Walls.{IsBehind}
use Rattle.hot_region.proofs.region.passing_behind.Given as goal

abbrev pub invariant-loop-line : goal.invariant-loop-line
invariant-loop-line g l = AreReaching (λ c. IsIn l.rect c × IsBehind l.wall c) (take l.line-index l.lines) l.part.items
