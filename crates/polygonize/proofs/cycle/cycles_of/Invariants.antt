use Rattle.polygonize.proofs.NumberedCycles.{CyclesSoFar}
use Rattle.polygonize.proofs.cycle.cycles_of.Given as goal

abbrev pub invariant-loop-start : goal.invariant-loop-start
invariant-loop-start g l = CyclesSoFar l.next l.cycle_at.items l.start l.numbers.items l.parts.items
