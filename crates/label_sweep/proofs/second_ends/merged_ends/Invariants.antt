use Rattle.std.proofs.Common.{◌+◌, ◌-◌, length}
use Rattle.label_sweep.proofs.Merging.{AreMergedTo}
use Rattle.label_sweep.proofs.second_ends.merged_ends.Given as goal

abbrev pub invariant-loop-next : goal.invariant-loop-next
invariant-loop-next g l = AreMergedTo l.own l.ends l.points.items l.endings.items l.next l.past

-- at each point an edge begins or ends
abbrev pub decreases-loop-next : goal.decreases-loop-next
decreases-loop-next g l = (length l.own - l.next) + (length l.ends - l.past)
