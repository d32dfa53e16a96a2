use Rattle.std.proofs.Common.{take}
use Rattle.hot_region.specs.Walls.{IsBehindAll}
use Rattle.hot_region.proofs.region.is_behind_all.Given as goal

abbrev pub invariant-loop-wall : goal.invariant-loop-wall
invariant-loop-wall l = IsBehindAll (take l.wall-index l.walls) l.pixel
