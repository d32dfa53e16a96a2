use Rattle.std.proofs.Common.{◌≡◌, ◌≤◌, min}
use Rattle.std.specs.Prelude.{slice_range}
use Rattle.label_sweep.specs.Chunks.{joined, number_of}
use Rattle.label_sweep.proofs.Chunks.{before}
use Rattle.label_sweep.proofs.status.list_between.Given as goal

-- the numbers of the chunks so far, as far as they are listed
abbrev pub invariant-loop-number : goal.invariant-loop-number
invariant-loop-number g l = l.low.chunk ≤ l.high.chunk → number_of l.chunks l.low ≤ number_of l.chunks l.high
    → l.numbers.items ≡ slice_range (joined l.chunks) (number_of l.chunks l.low) (min (before (λ c. c.items) l.chunks l.number) (number_of l.chunks l.high))
