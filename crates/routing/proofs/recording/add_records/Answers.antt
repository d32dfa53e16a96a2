use Rattle.std.proofs.Common.{arith, length, ◌≤◌}
use Rattle.routing.proofs.BoxLaws.{records_behind}
use Rattle.routing.proofs.recording.add_records.Goals as goal

pub loop-from-preserved : goal.loop-from-preserved
loop-from-preserved g c =
    let pixels = c.args.pixels.now in
    let from = c.loop-from.from in
    let past = c.min-past.result in
    let behind : from ≤ past = omega (arith, c.min-past.ensures, c.loop-from-test.true) in
    let within : past ≤ length pixels = omega (arith, c.min-past.ensures) in
    (within, records_behind c.args.lined.now.segments.now c.args.lined.now.table.now c.args.lines.now pixels from past c.args.records.now.items c.loop-from.records.items c.add_few.new.records.items behind c.loop-from.invariant.0 c.loop-from.invariant.1 c.in_ok-add_few.ensures)
