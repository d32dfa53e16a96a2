use Rattle.polygonize.proofs.EdgesBelow.Reaching.{IsLonger}
use Rattle.polygonize.proofs.short.lengthen.Given as goal

abbrev pub invariant-loop : goal.invariant-loop
invariant-loop g l = IsLonger l.counter l.initial.numbers.items l.numbers.items
