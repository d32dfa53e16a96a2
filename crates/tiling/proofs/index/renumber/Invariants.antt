use Rattle.std.proofs.Common.{◌≡◌, ◌-◌, ◌≤◌, ◌++◌, length, map, take, drop, get_or}
use Rattle.tiling.proofs.index.renumber.Given as goal

-- the front is renumbered, the rest is as it was
abbrev pub invariant-loop-i : goal.invariant-loop-i
invariant-loop-i l = record {
  within : l.i ≤ length l.fn.out;
  same : length l.out ≡ length l.fn.out;
  done : l.out ≡ map (λ k. get_or l.order k 0) (take l.i l.fn.out) ++ drop l.i l.fn.out;
}

abbrev pub decreases-loop-i : goal.decreases-loop-i
decreases-loop-i l = length l.out - l.i
