use Rattle.lane_tests.specs.Columns.{touches, pair_at, corners}
use Rattle.lane_tests.proofs.Hits.{AreGathered}
use Rattle.lane_tests.proofs.boxes.push_chunks.Given as goal

abbrev pub invariant-loop-chunk : goal.invariant-loop-chunk
invariant-loop-chunk g l = AreGathered (λ k. touches (pair_at l.left l.bottom l.right l.top k) (corners l.fn.rect)) l.from l.chunk l.count l.found
