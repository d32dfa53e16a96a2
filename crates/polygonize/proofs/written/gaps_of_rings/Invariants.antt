use Rattle.std.proofs.Common.{◌≡◌, ◌<◌, ℕ, length, slice_index_or}
use Rattle.polygonize.specs.Below.{best_at}
use Rattle.polygonize.proofs.written.gaps_of_rings.Given as goal

abbrev pub invariant-loop-place : goal.invariant-loop-place
invariant-loop-place g l = (length l.below.items ≡ l.rings) × ((k : ℕ) → k < l.place → best_at l.below.items (slice_index_or l.holes k 0) ≡ best_at l.gaps k)
