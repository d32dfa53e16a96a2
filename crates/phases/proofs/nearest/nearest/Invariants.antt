use Rattle.std.proofs.Common.{take}
use Rattle.phases.specs.Nearest.{AreNearest}
use Rattle.phases.proofs.nearest.nearest.Given as goal

abbrev pub invariant-loop-record : goal.invariant-loop-record
invariant-loop-record g l = AreNearest l.side l.fn.count (take l.record-index l.records) l.nears.items
