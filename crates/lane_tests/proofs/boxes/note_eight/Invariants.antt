use Rattle.lane_tests.specs.Columns.{touches, pair_at, corners}
use Rattle.lane_tests.proofs.Hits.{AreNoted}
use Rattle.lane_tests.proofs.boxes.note_eight.Given as goal

abbrev pub invariant-loop-lane : goal.invariant-loop-lane
invariant-loop-lane l = AreNoted (λ k. touches (pair_at l.left l.bottom l.right l.top k) (corners l.fn.rect)) l.at l.lane l.rest l.count l.end l.fn.found l.found
