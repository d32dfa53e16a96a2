use Rattle.std.proofs.Common.{◌≡◌, length}
use Rattle.covered_tests.proofs.worked.borders_of.Given as goal

abbrev pub invariant-loop-p : goal.invariant-loop-p
invariant-loop-p g l = length l.borders.items ≡ l.p-index
