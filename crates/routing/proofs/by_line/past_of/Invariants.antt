use Rattle.std.proofs.Common.{ℕ, ◌≡◌, ◌<◌, ◌≤◌, ◌-◌, Some, length}
use Rattle.std.specs.Prelude.{slice_get}
use Rattle.routing.specs.declared.on_line.OnLine.{OnLine}
use Rattle.routing.proofs.by_line.past_of.Given as goal

abbrev pub invariant-loop-past : goal.invariant-loop-past
invariant-loop-past l = (l.first < l.past) × (l.past ≤ length l.table) × ((k : ℕ) (y : OnLine) → l.first ≤ k → k < l.past → slice_get l.table k ≡ Some y → y.edge ≡ l.edge)

abbrev pub decreases-loop-past : goal.decreases-loop-past
decreases-loop-past l = length l.table - l.past
