use Rattle.std.proofs.Common.{◌-◌}
use Rattle.polygonize.proofs.EdgesBelow.Ladders.{IsSearched}
use Rattle.polygonize.proofs.ladder.highest_below.Given as goal

abbrev pub invariant-loop-low : goal.invariant-loop-low
invariant-loop-low l = IsSearched l.edges.list.now l.v l.ladder l.low l.high l.best

abbrev pub decreases-loop-low : goal.decreases-loop-low
decreases-loop-low l = l.high - l.low
