use Rattle.std.proofs.Common.{take}
use Rattle.routing.specs.Recording.{AddsRecordsAt}
use Rattle.routing.proofs.recording.add_few.Given as goal

abbrev pub invariant-loop-line : goal.invariant-loop-line
invariant-loop-line g l = AddsRecordsAt l.lined.segments.now l.lined.table.now (take l.line-index l.lines) l.pixels l.initial.records.items l.records.items
