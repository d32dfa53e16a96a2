use Rattle.std.proofs.Common.{◌<◌}
use Rattle.std.specs.Prelude.{⊤}
use Rattle.polygonize.proofs.Filtered.{KeptSoFar}
use Rattle.polygonize.proofs.nearest.numbers_below.Given as goal

abbrev pub invariant-loop-number : goal.invariant-loop-number
invariant-loop-number g l = KeptSoFar (λ m. m) (λ k. k < l.bound) (λ k. ⊤) l.number l.all.items
