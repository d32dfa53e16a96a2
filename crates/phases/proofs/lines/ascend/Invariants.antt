use Rattle.std.proofs.Common.{ℕ, ◌<◌, get_or}
use Rattle.std.proofs.Math.IntN.{pos}
use Rattle.std.specs.Prelude.{◌≤ℤ◌}
use Rattle.phases.proofs.lines.ascend.Given as goal

abbrev pub invariant-loop-cut : goal.invariant-loop-cut
invariant-loop-cut l = record {
  past : (k : ℕ) → k < l.cut-index → get_or l.cuts k (pos 0) ≤ℤ l.greatest;
  ascending : (j k : ℕ) → j < k → k < l.cut-index → get_or l.cuts j (pos 0) ≤ℤ get_or l.cuts k (pos 0);
}
