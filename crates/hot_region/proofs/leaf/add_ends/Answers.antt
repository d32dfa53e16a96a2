use Rattle.std.proofs.Common.{List, subst, ap, ◌∙◌}
use Rattle.std.proofs.lemmas.List.{take_all}
use Rattle.geom.specs.declared.edge.Edge.{Edge}
use Rattle.hot_region.specs.Halving.{edges_of, HasEndsToo}
use Rattle.hot_region.proofs.HalvingLaws.{add_ends_none, add_ends_more, edge_at, edge_below, edges_taken}
use Rattle.hot_region.proofs.leaf.add_ends.Goals as goal

pub loop-line-init : goal.loop-line-init
loop-line-init g c = add_ends_none c.args.rect.now c.args.found.now.items

pub loop-line-preserved : goal.loop-line-preserved
loop-line-preserved g c =
    let lines = c.args.lines.now in
    let i = c.loop-line.line-index in
    let l = c.line-item.result in
    add_ends_more c.args.rect.now (edges_of lines) i l.edge c.args.found.now.items c.loop-line.found.items c.push_end.new.found.items c.push_end-in-loop-line.new.found.items (edge_below lines i c.loop-line-test.true) (edge_at lines i l c.line-item.is) c.loop-line.invariant c.in_ok-push_end.ensures c.in_ok-push_end-2.ensures

pub returns : goal.returns
returns g c =
    let lines = c.args.lines.now in
    let i = c.loop-line.line-index in
    subst (λ (es : List Edge). HasEndsToo c.args.rect.now es c.args.found.now.items c.loop-line.found.items) (edges_taken lines i ∙ ap edges_of (take_all i lines c.loop-line-test.false)) c.loop-line.invariant
