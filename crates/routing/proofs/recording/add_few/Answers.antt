use Rattle.std.proofs.Common.{List, subst}
use Rattle.std.proofs.lemmas.List.{take_all}
use Rattle.hot_region.specs.declared.lines.Line.{Line}
use Rattle.routing.specs.Recording.{AddsRecordsAt}
use Rattle.routing.proofs.RecordingLaws.{lines_none, lines_more}
use Rattle.routing.proofs.recording.add_few.Goals as goal

pub loop-line-init : goal.loop-line-init
loop-line-init g c = lines_none c.args.lined.now.segments.now c.args.lined.now.table.now c.args.pixels.now c.args.records.now.items

pub loop-line-preserved : goal.loop-line-preserved
loop-line-preserved g c = lines_more c.args.lined.now.segments.now c.args.lined.now.table.now c.args.lines.now c.args.pixels.now c.loop-line.line-index c.line-item.result c.args.records.now.items c.loop-line.records.items c.add_along.new.records.items c.loop-line-test.true c.line-item.is c.loop-line.invariant c.in_ok-add_along.ensures

pub returns : goal.returns
returns g c = subst (λ (ls : List Line). AddsRecordsAt c.args.lined.now.segments.now c.args.lined.now.table.now ls c.args.pixels.now c.args.records.now.items c.loop-line.records.items) (take_all c.loop-line.line-index c.args.lines.now c.loop-line-test.false) c.loop-line.invariant
