use Rattle.std.proofs.Common.{◌≤◌, length}
use Rattle.routing.proofs.piled.last_at.Given as goal

abbrev pub invariant-loop-step : goal.invariant-loop-step
invariant-loop-step l = l.place ≤ length l.records
