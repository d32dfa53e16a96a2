use Rattle.std.proofs.Common.{List, subst, ap, ◌∙◌}
use Rattle.std.proofs.lemmas.List.{take_all}
use Rattle.std.proofs.lemmas.List.Elements.{Contains-get_or}
use Rattle.geom.specs.declared.edge.Edge.{Edge}
use Rattle.hot_region.specs.Halving.{edges_of}
use Rattle.hot_region.specs.Lines.{HasBothCrossed}
use Rattle.hot_region.proofs.BesideLaws.{both_more, both_none}
use Rattle.hot_region.proofs.HalvingLaws.{edge_at, edge_below, edge_in, edges_taken}
use Rattle.hot_region.proofs.beside.cross_few.Goals as goal

pub loop-other-init : goal.loop-other-init
loop-other-init g c = both_none c.args.rect.now (edges_of c.args.lines.now) c.args.found.now.items

pub cross_near-requires-clause-ends : goal.cross_near-requires-clause-ends
cross_near-requires-clause-ends g c = λ p k t.
    let others = c.args.others.now in
    let line = c.other-item.result in
    let i = c.loop-other.other-index in
    let listed = edge_in others line (rw c.other-item.is (Contains-get_or others i line c.loop-other-test.true)) in
    c.loop-other.invariant.kept p (c.requires.ends p (record { e = line.edge; listed = listed; is_end = k }) t)

pub loop-other-preserved : goal.loop-other-preserved
loop-other-preserved g c =
    let others = c.args.others.now in
    let i = c.loop-other.other-index in
    let l = c.other-item.result in
    both_more c.args.rect.now (edges_of others) (edges_of c.args.lines.now) i l.edge c.args.found.now.items c.loop-other.found.items c.cross_near.new.found.items (edge_below others i c.loop-other-test.true) (edge_at others i l c.other-item.is) c.loop-other.invariant c.in_ok-cross_near.ensures

pub returns : goal.returns
returns g c =
    let others = c.args.others.now in
    let i = c.loop-other.other-index in
    subst (λ (es : List Edge). HasBothCrossed c.args.rect.now es (edges_of c.args.lines.now) c.args.found.now.items c.loop-other.found.items) (edges_taken others i ∙ ap edges_of (take_all i others c.loop-other-test.false)) c.loop-other.invariant
