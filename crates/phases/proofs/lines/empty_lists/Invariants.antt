use Rattle.std.proofs.Common.{◌≡◌, ℕ, [], get_or, length}
use Rattle.phases.specs.Scattered.{lists_of}
use Rattle.phases.proofs.lines.empty_lists.Given as goal

abbrev pub invariant-loop : goal.invariant-loop
invariant-loop g l = (length l.lists.items ≡ l.counter) × ((k : ℕ) → get_or (lists_of l.lists.items) k [] ≡ [])
