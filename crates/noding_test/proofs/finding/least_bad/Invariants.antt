use Rattle.std.proofs.Common.{ℕ, ◌<◌, length}
use Rattle.hot_region.specs.Rects.{IsIn}
use Rattle.noding_test.specs.Search.{NoneBadTo}
use Rattle.noding_test.proofs.finding.least_bad.Given as goal

abbrev pub invariant-loop-place : goal.invariant-loop-place
invariant-loop-place l = (i : ℕ) → i < l.place → NoneBadTo (IsIn l.tile) l.edges i (length l.edges)
