use Rattle.std.proofs.Common.{◌-◌}
use Rattle.lane_tests.specs.Above.{is_above}
use Rattle.lane_tests.proofs.Masks.{HasCounted}
use Rattle.lane_tests.proofs.edges.count_above.Given as goal

abbrev pub invariant-loop-at : goal.invariant-loop-at
invariant-loop-at l = HasCounted (is_above l.px l.py l.qx l.qy l.column l.probe) l.at l.end l.total

abbrev pub decreases-loop-at : goal.decreases-loop-at
decreases-loop-at l = l.end - l.at

abbrev pub invariant-loop-at-2 : goal.invariant-loop-at-2
invariant-loop-at-2 l = HasCounted (is_above l.px l.py l.qx l.qy l.column l.probe) l.at l.end l.total

abbrev pub decreases-loop-at-2 : goal.decreases-loop-at-2
decreases-loop-at-2 l = l.end - l.at
