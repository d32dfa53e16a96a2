use Rattle.std.proofs.Common.{◌≤◌, ◌-◌, length}
use Rattle.phases.specs.Merged.{AreAscending, AreOthers}
use Rattle.phases.proofs.Merges.{IsMergedTo}
use Rattle.phases.proofs.merging.merged.Given as goal

abbrev pub invariant-loop-counted : goal.invariant-loop-counted
invariant-loop-counted g l = (l.place ≤ length l.second) × (AreAscending l.first → AreAscending l.second → AreOthers l.first l.second → IsMergedTo l.first l.second l.counted-index l.place l.list.items)

abbrev pub invariant-loop-place : goal.invariant-loop-place
invariant-loop-place g l = (l.place ≤ length l.second) × (AreAscending l.first → AreAscending l.second → AreOthers l.first l.second → IsMergedTo l.first l.second l.counted-index l.place l.list.items)

abbrev pub decreases-loop-place : goal.decreases-loop-place
decreases-loop-place g l = length l.second - l.place
