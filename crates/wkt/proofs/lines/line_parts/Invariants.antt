use Rattle.std.proofs.Common.{◌≤◌, All, length}
use Rattle.hands.specs.Consecutive.{ArePartsOf}
use Rattle.wkt.specs.WholeLines.{AreWholeLines}
use Rattle.wkt.proofs.lines.line_parts.Given as goal

-- the parts up to here
abbrev pub invariant-loop-even : goal.invariant-loop-even
invariant-loop-even g l = ArePartsOf 0 l.from l.all.items × All (AreWholeLines l.text) l.all.items × (l.from ≤ length l.text)
