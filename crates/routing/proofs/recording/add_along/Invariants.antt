use Rattle.routing.proofs.BoxLaws.{AddsAlongBut}
use Rattle.routing.proofs.recording.add_along.Given as goal

abbrev pub invariant-loop-near : goal.invariant-loop-near
invariant-loop-near g l = AddsAlongBut l.lined.segments.now l.lined.table.now l.line l.pixels l.near l.initial.records.items l.records.items

abbrev pub decreases-loop-near : goal.decreases-loop-near
decreases-loop-near g l = l.near
