use Rattle.std.proofs.Common.{◌-◌}
use Rattle.lane_tests.specs.Sides.{side_at}
use Rattle.lane_tests.proofs.SideLemmas.{AreWritten}
use Rattle.lane_tests.proofs.segs.put_sides.Given as goal

abbrev pub invariant-loop-at : goal.invariant-loop-at
invariant-loop-at l = AreWritten (side_at l.ax l.ay l.bx l.by l.x2 l.y2) l.at l.end l.out

abbrev pub decreases-loop-at : goal.decreases-loop-at
decreases-loop-at l = l.end - l.at

abbrev pub invariant-loop-at-2 : goal.invariant-loop-at-2
invariant-loop-at-2 l = AreWritten (side_at l.ax l.ay l.bx l.by l.x2 l.y2) l.at l.end l.out

abbrev pub decreases-loop-at-2 : goal.decreases-loop-at-2
decreases-loop-at-2 l = l.end - l.at
