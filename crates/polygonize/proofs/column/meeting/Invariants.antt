use Rattle.std.proofs.Common.{◌<◌, length, get_or}
use Rattle.polygonize.specs.Column.{Meets, Spans}
use Rattle.polygonize.specs.Next.{edge_at}
use Rattle.polygonize.proofs.Filtered.{KeptSoFar}
use Rattle.polygonize.proofs.column.meeting.Given as goal

abbrev pub invariant-loop-number : goal.invariant-loop-number
invariant-loop-number g l = KeptSoFar (λ m. get_or l.numbers m 0) (λ k. k < length l.edges.list.now) (λ k. ¬ (Spans (edge_at l.edges.list.now k) l.all) × Meets (edge_at l.edges.list.now k) l.part) l.number-index l.found.items
