use Rattle.std.proofs.Common.{◌-◌, ◌≤◌, length}
use Rattle.polygonize.specs.Leaving.{IsNoneAfter, IsNoneBefore}
use Rattle.polygonize.proofs.stripes.first_between.Given as goal

abbrev pub invariant-loop-low : goal.invariant-loop-low
invariant-loop-low l = (l.low ≤ l.high) × (l.high ≤ length l.edges.list.now) × IsNoneBefore l.edges.list.now l.v l.low × IsNoneAfter l.edges.list.now l.v l.high

abbrev pub decreases-loop-low : goal.decreases-loop-low
decreases-loop-low l = l.high - l.low
