use Rattle.std.proofs.Common.{◌-◌, length}
use Rattle.routing.proofs.RecordingLaws.{AreFirstLines}
use Rattle.routing.proofs.by_line.lines_of.Given as goal

abbrev pub invariant-loop-first : goal.invariant-loop-first
invariant-loop-first g l = AreFirstLines l.table l.first l.lines.items

abbrev pub decreases-loop-first : goal.decreases-loop-first
decreases-loop-first g l = length l.table - l.first
