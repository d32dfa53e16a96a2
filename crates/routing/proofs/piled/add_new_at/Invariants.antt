use Rattle.std.proofs.Common.{◌≤◌}
use Rattle.routing.specs.Recording.{AddsAt}
use Rattle.routing.proofs.piled.add_new_at.Given as goal

abbrev pub invariant-loop-place : goal.invariant-loop-place
invariant-loop-place g l = AddsAt l.lined.segments.now l.lined.table.now l.line.first l.place l.pixel l.initial.records.items l.records.items × (l.line.first ≤ l.place) × (l.place ≤ l.line.past)
