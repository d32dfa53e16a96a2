use Rattle.std.proofs.Common.{take, ◌≤◌, length, ◌-◌}
use Rattle.routing.specs.Recording.{AddsRecordsAt}
use Rattle.routing.proofs.recording.add_records.Given as goal

abbrev pub invariant-loop-from : goal.invariant-loop-from
invariant-loop-from g l = (l.from ≤ length l.pixels) × AddsRecordsAt l.lined.segments.now l.lined.table.now l.lines (take l.from l.pixels) l.initial.records.items l.records.items

abbrev pub decreases-loop-from : goal.decreases-loop-from
decreases-loop-from g l = length l.pixels - l.from
