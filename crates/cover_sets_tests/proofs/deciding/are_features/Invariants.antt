use Rattle.std.proofs.Common.{ℕ, ◌<◌, get_or}
use Rattle.cover_sets_tests.proofs.deciding.are_features.Given as goal

abbrev pub invariant-loop-f : goal.invariant-loop-f
invariant-loop-f l = record {
  past : (k : ℕ) → k < l.f-index → get_or l.list k 0 < l.least;
  below : (k : ℕ) → k < l.f-index → get_or l.list k 0 < 2147483647;
  ascending : (j k : ℕ) → j < k → k < l.f-index → get_or l.list j 0 < get_or l.list k 0;
}
