use Rattle.std.proofs.Common.{◌-◌}
use Rattle.grid.proofs.TriedSides.{IsTried}
use Rattle.grid.proofs.sides.default_side.Given as goal

abbrev pub invariant-loop-bounds : goal.invariant-loop-bounds
invariant-loop-bounds l = IsTried l.fn.bounds l.side

abbrev pub decreases-loop-bounds : goal.decreases-loop-bounds
decreases-loop-bounds l = 33_554_432 - l.side
