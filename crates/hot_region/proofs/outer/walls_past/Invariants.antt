use Rattle.std.proofs.Math.IntN.{pos}
use Rattle.std.specs.Prelude.{◌≤ℤ◌}
use Rattle.hot_region.proofs.outer.walls_past.Given as goal

abbrev pub invariant-loop-step : goal.invariant-loop-step
invariant-loop-step l = pos 0 ≤ℤ l.away
