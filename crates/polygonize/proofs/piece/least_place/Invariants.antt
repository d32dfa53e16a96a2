use Rattle.std.proofs.Common.{ℕ, ◌<◌, ◌≤◌, length, slice_index_or}
use Rattle.polygonize.proofs.piece.least_place.Given as goal

abbrev pub invariant-loop-i : goal.invariant-loop-i
invariant-loop-i l = (l.best < length l.ring) × ((m : ℕ) → m < l.i → slice_index_or l.ring l.best 0 ≤ slice_index_or l.ring m 0)
