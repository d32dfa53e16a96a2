use Rattle.std.proofs.Common.{arith}
use Rattle.engine.proofs.Known.{ready_of}
use Rattle.engine.proofs.Running.{reports_on}
use Rattle.engine.proofs.engine.report_for.Goals as goal

pub report_of-requires : goal.report_of-requires
report_of-requires g c =
    let now = c.args.checked.now in
    let rounded = c.requires.rounded in
    let e = rounded.tiles_are.one_each in
    let f = (ready_of now.limits.segments now.plan now.a.now now.b.now now.segments_a now.segments_b now.grid now.are_checked rounded.segments rounded.are_segments).few_tiles in
    omega arith

pub returns-clause-reports : goal.returns-clause-reports
returns-clause-reports g c =
    let now = c.args.checked.now in
    let told = c.report_of.ensures in
    reports_on now.limits.segments now.plan now.a.now now.b.now now.segments_a now.segments_b now.grid c.args.noded.now.edges.items c.args.noded.now.tiles.items c.args.noded.now.remade
    now.are_checked c.requires.rounded c.requires.remade c.report_of.result told.segments_a told.segments_b told.edges told.tiles told.remade
