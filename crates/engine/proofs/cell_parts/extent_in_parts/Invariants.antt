use Rattle.std.proofs.Common.{length}
use Rattle.engine.proofs.Extents.{HoldsRange}
use Rattle.results.proofs.Folds.{IsFolded}
use Rattle.engine.proofs.cell_parts.extent_in_parts.Given as goal

abbrev pub invariant-loop-next : goal.invariant-loop-next
invariant-loop-next g l = IsFolded (λ at. HoldsRange l.segments 0 at l.extent.bounds) (λ p e. HoldsRange l.segments p.from p.past e.bounds) (length l.segments) l.next-iterator.rest.items
