use Rattle.std.proofs.Common.{◌≡◌, ◌<◌, ℕ, get_or, length}
use Rattle.routing.proofs.limited.LimitedSegments.numbers.Given as goal

abbrev pub invariant-loop-number : goal.invariant-loop-number
invariant-loop-number g l = (length l.numbers.items ≡ l.number) × ((k d : ℕ) → k < l.number → get_or l.numbers.items k d ≡ k)
