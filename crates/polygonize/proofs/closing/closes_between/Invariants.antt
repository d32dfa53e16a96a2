use Rattle.std.proofs.Common.{◌<◌, ◌≤◌, ℕ}
use Rattle.polygonize.specs.Closing.{GoesOn}
use Rattle.polygonize.proofs.closing.closes_between.Given as goal

-- those before this place go on
abbrev pub invariant-loop-place : goal.invariant-loop-place
invariant-loop-place l = (k : ℕ) → l.from ≤ k → k < l.place → GoesOn l.ends l.from l.past k
