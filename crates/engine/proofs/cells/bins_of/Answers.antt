use Rattle.std.proofs.Common.{List, subst}
use Rattle.std.proofs.lemmas.List.{take_all}
use Rattle.geom.specs.declared.segment.Seg.{Seg}
use Rattle.engine.specs.Rounds.{AreCellBins}
use Rattle.engine.proofs.Binned.{bins_of_more, bins_of_none, greatest_has_tile, least_has_tile}
use Rattle.engine.proofs.cells.bins_of.Goals as goal

pub loop-segment-init : goal.loop-segment-init
loop-segment-init g c = bins_of_none c.args.cells.now c.args.segments.now c.in_ok-bins.bins c.in_ok-bins.ensures.grid c.in_ok-bins.ensures.bins

pub add-requires-clause-lo : goal.add-requires-clause-lo
add-requires-clause-lo g c =
    let box = c.bounds.ensures in
    least_has_tile c.args.cells.now c.args.segments.now c.loop-segment.segment-index c.segment-item.result c.bounds.result c.loop-segment-test.true c.segment-item.is box.lo box.hi c.loop-segment.bins.grid c.loop-segment.invariant.grid_is c.requires

pub add-requires-clause-hi : goal.add-requires-clause-hi
add-requires-clause-hi g c =
    let box = c.bounds.ensures in
    greatest_has_tile c.args.cells.now c.args.segments.now c.loop-segment.segment-index c.segment-item.result c.bounds.result c.loop-segment-test.true c.segment-item.is box.lo box.hi c.loop-segment.bins.grid c.loop-segment.invariant.grid_is c.requires

pub loop-segment-preserved : goal.loop-segment-preserved
loop-segment-preserved g c =
    let box = c.bounds.ensures in
    bins_of_more c.args.cells.now c.args.segments.now c.loop-segment.segment-index c.segment-item.result c.bounds.result c.loop-segment-test.true c.segment-item.is box.lo box.hi c.loop-segment.bins c.loop-segment.invariant
    c.add.new.self c.add.ensures.grid c.in_ok-add.ensures.bins

pub returns : goal.returns
returns g c =
    ∣ subst (λ (ss : List Seg). AreCellBins c.args.cells.now ss c.loop-segment.bins) (take_all c.loop-segment.segment-index c.args.segments.now c.loop-segment-test.false) c.loop-segment.invariant ∣₁
