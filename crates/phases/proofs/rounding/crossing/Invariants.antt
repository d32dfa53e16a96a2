use Rattle.std.proofs.Common.{◌≡◌, take}
use Rattle.phases.specs.Nearest.{opens_at}
use Rattle.phases.proofs.rounding.crossing.Given as goal

abbrev pub invariant-loop-i : goal.invariant-loop-i
invariant-loop-i g l = l.list.items ≡ opens_at l.cuts l.strip (take l.i l.lines) (take l.i l.nears)
