use Rattle.std.proofs.Common.{◌∙◌, ap}
use Rattle.std.proofs.lemmas.List.{take_all}
use Rattle.hot_region.specs.Boxes.{boxes_of}
use Rattle.hot_region.specs.Halving.{edges_of}
use Rattle.hot_region.proofs.BoxLaws.{boxes_more, boxes_few}
use Rattle.hot_region.proofs.HalvingLaws.{edge_at, edge_below, edges_taken}
use Rattle.hot_region.proofs.beside.boxes_of.Goals as goal

pub loop-line-preserved : goal.loop-line-preserved
loop-line-preserved c =
    let lines = c.args.lines.now in
    let i = c.loop-line.line-index in
    let l = c.line-item.result in
    c.push.ensures ∙ boxes_more (edges_of lines) i l.edge c.loop-line.boxes c.bounds.result.lo c.bounds.result.hi (edge_below lines i c.loop-line-test.true) (edge_at lines i l c.line-item.is) c.loop-line.invariant c.bounds.ensures.lo c.bounds.ensures.hi

pub push-requires : goal.push-requires
push-requires c = boxes_few c.args.lines.now c.loop-line.line-index c.loop-line.boxes c.loop-line-test.true c.requires c.loop-line.invariant

pub returns : goal.returns
returns c =
    let lines = c.args.lines.now in
    let i = c.loop-line.line-index in
    c.loop-line.invariant ∙ ap boxes_of (edges_taken lines i ∙ ap edges_of (take_all i lines c.loop-line-test.false))
