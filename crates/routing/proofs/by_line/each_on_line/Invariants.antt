use Rattle.std.proofs.Common.{take}
use Rattle.routing.specs.Recording.{IsTable}
use Rattle.routing.proofs.by_line.each_on_line.Given as goal

abbrev pub invariant-loop-number : goal.invariant-loop-number
invariant-loop-number g l = IsTable l.limited.list.now (take l.number-index l.numbers) l.table.items
