use Rattle.std.proofs.Common.{◌-◌}
use Rattle.lane_tests.specs.Columns.{touches, pair_at, corners}
use Rattle.lane_tests.proofs.Hits.{HasFound}
use Rattle.lane_tests.proofs.boxes.push_runs.Given as goal

abbrev pub invariant-loop-at : goal.invariant-loop-at
invariant-loop-at g l = HasFound (λ k. touches (pair_at l.left l.bottom l.right l.top k) (corners l.rect)) l.from l.at l.end l.fn.out.items l.out.items

abbrev pub decreases-loop-at : goal.decreases-loop-at
decreases-loop-at g l = l.end - l.at
