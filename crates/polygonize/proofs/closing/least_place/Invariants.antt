use Rattle.polygonize.specs.Closing.{IsLeastPlace}
use Rattle.polygonize.proofs.closing.least_place.Given as goal

abbrev pub invariant-loop-k : goal.invariant-loop-k
invariant-loop-k l = IsLeastPlace l.ends l.from l.k l.least
