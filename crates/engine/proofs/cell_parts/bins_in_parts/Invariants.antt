use Rattle.engine.specs.Rounds.{AreCellRows}
use Rattle.results.proofs.Folds.{IsFolded}
use Rattle.engine.proofs.cell_parts.bins_in_parts.Given as goal

abbrev pub invariant-loop-next : goal.invariant-loop-next
invariant-loop-next g l = IsFolded (λ at. AreCellRows l.cells 0 at l.segments l.all) (λ p bins. AreCellRows l.cells p.from p.past l.segments bins) l.cells.rows l.next-iterator.rest.items
