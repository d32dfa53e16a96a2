use Rattle.std.proofs.Common.{List, subst}
use Rattle.std.proofs.lemmas.List.{take_all}
use Rattle.geom.specs.declared.segment.Seg.{Seg}
use Rattle.engine.specs.Rounds.{AreCellRows}
use Rattle.engine.proofs.Binned.{greatest_has_tile, least_has_tile, rows_of_more, rows_of_none}
use Rattle.engine.proofs.cell_parts.bins_of_rows.Goals as goal

pub loop-segment-init : goal.loop-segment-init
loop-segment-init g c =
    let new = c.in_ok-bins.ensures in
    rows_of_none c.args.cells.now c.args.from c.args.past c.args.segments.now c.in_ok-bins.bins new.grid new.from new.past new.bins

pub add-requires-clause-lo : goal.add-requires-clause-lo
add-requires-clause-lo g c =
    let box = c.bounds.ensures in
    least_has_tile c.args.cells.now c.args.segments.now c.loop-segment.segment-index c.segment-item.result c.bounds.result c.loop-segment-test.true c.segment-item.is box.lo box.hi c.loop-segment.bins.grid c.loop-segment.invariant.grid_is c.requires.covered

pub add-requires-clause-hi : goal.add-requires-clause-hi
add-requires-clause-hi g c =
    let box = c.bounds.ensures in
    greatest_has_tile c.args.cells.now c.args.segments.now c.loop-segment.segment-index c.segment-item.result c.bounds.result c.loop-segment-test.true c.segment-item.is box.lo box.hi c.loop-segment.bins.grid c.loop-segment.invariant.grid_is c.requires.covered

pub loop-segment-preserved : goal.loop-segment-preserved
loop-segment-preserved g c =
    let box = c.bounds.ensures in
    let added = c.in_ok-add.ensures in
    rows_of_more c.args.cells.now c.args.segments.now c.loop-segment.segment-index c.segment-item.result c.bounds.result c.loop-segment-test.true c.segment-item.is box.lo box.hi c.args.from c.args.past c.loop-segment.bins c.loop-segment.invariant
    c.add.new.self added.grid added.from added.past added.bins

pub returns : goal.returns
returns g c =
    subst (λ (ss : List Seg). AreCellRows c.args.cells.now c.args.from c.args.past ss c.loop-segment.bins) (take_all c.loop-segment.segment-index c.args.segments.now c.loop-segment-test.false) c.loop-segment.invariant
