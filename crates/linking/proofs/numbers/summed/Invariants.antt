use Rattle.std.proofs.Common.{◌≡◌, ◌<◌, ℕ, get_or, length}
use Rattle.std.specs.Prelude.{sum_by}
use Rattle.linking.proofs.numbers.summed.Given as goal

abbrev pub invariant-loop-tile : goal.invariant-loop-tile
invariant-loop-tile g l = (length l.sums.items ≡ l.tile) × ((k : ℕ) → k < l.tile → get_or l.sums.items k 0 ≡ sum_by (λ v. get_or v.items k 0) l.lists)
