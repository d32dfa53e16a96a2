use Rattle.std.proofs.Common.{◌≤◌, List}
use Rattle.routing.specs.declared.record.Record.{Record}
use Rattle.routing.specs.Recording.{AddsAt}
use Rattle.routing.proofs.recording.ends_each.Given as goal

abbrev pub invariant-loop-place : goal.invariant-loop-place
invariant-loop-place l = ((records : List Record) → AddsAt l.lined.segments.now l.lined.table.now l.line.first l.place l.pixel records records) × (l.line.first ≤ l.place) × (l.place ≤ l.line.past)
