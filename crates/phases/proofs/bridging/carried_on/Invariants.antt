use Rattle.std.proofs.Common.{take}
use Rattle.std.specs.List.{AllZip}
use Rattle.strips_law.specs.Strips.{CarriesOn}
use Rattle.phases.specs.Bridged.{ArePassing}
use Rattle.phases.proofs.bridging.carried_on.Given as goal

abbrev pub invariant-loop-i : goal.invariant-loop-i
invariant-loop-i g l = ArePassing l.left l.carried → AllZip (CarriesOn l.carried) (take l.i l.left) l.list.items
