use Rattle.std.proofs.Common.{take}
use Rattle.hot_region.specs.Bundle.{AreStrands}
use Rattle.hot_region.proofs.bundle.strands.Given as goal

abbrev pub invariant-loop-line : goal.invariant-loop-line
invariant-loop-line g l = AreStrands l.fn.course l.fn.low l.fn.high (take l.line-index l.lines) l.list.items
