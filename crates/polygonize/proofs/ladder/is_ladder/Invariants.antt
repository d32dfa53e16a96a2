use Rattle.std.proofs.Common.{ℕ, ◌<◌, ◌+◌, get_or}
use Rattle.polygonize.specs.Ladder.{AreInOrder}
use Rattle.polygonize.specs.Next.{edge_at}
use Rattle.polygonize.proofs.ladder.is_ladder.Given as goal

abbrev pub invariant-loop-place : goal.invariant-loop-place
invariant-loop-place l = (i : ℕ) → i + 1 < l.place → AreInOrder (edge_at l.edges.list.now (get_or l.numbers i 0)) (edge_at l.edges.list.now (get_or l.numbers (i + 1) 0)) l.columns
