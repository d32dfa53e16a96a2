use Rattle.std.proofs.Common.{◌<◌, length, get_or, map}
use Rattle.polygonize.specs.Column.{Spans}
use Rattle.polygonize.specs.Next.{edge_at}
use Rattle.polygonize.proofs.Filtered.{KeptSoFar}
use Rattle.polygonize.proofs.ladder.rungs_of.Given as goal

abbrev pub invariant-loop-number : goal.invariant-loop-number
invariant-loop-number g l = KeptSoFar (λ m. get_or l.numbers m 0) (λ k. (k < length l.edges.list.now) × Spans (edge_at l.edges.list.now k) l.columns) (λ k. Spans (edge_at l.edges.list.now k) l.columns) l.number-index (map (λ r. r.number) l.rungs.items)
