use Rattle.std.proofs.Common.{take}
use Rattle.routing.specs.Recording.{AddsEnds}
use Rattle.routing.proofs.finding.add_ends.Given as goal

abbrev pub invariant-loop-number : goal.invariant-loop-number
invariant-loop-number g l = AddsEnds l.tile l.limited.list.now (take l.number-index l.numbers) l.initial.records.items l.records.items
