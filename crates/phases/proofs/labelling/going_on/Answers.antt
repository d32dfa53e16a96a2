use Rattle.std.proofs.Common.{[], ◌+◌, ◌++◌, List, ap, subst, sym, ◌∙◌}
use Rattle.std.specs.List.{filter}
use Rattle.std.proofs.lemmas.List.{append-nil, take_all}
use Rattle.geom.specs.declared.edge.Counted.{Counted}
use Rattle.phases.specs.Labels.{ComeInto, goes_on}
use Rattle.phases.proofs.StripLabels.{come_into, more_kept}
use Rattle.phases.proofs.labelling.going_on.Goals as goal

pub loop-come-preserved : goal.loop-come-preserved
loop-come-preserved g c = more_kept (goes_on c.args.cuts.now c.args.strip) c.args.crossing.now c.loop-come.come-index c.come-item.result [] c.loop-come.going.items _
    c.loop-come-test.true c.come-item.is c.in_ok-add_going.ensures c.loop-come.invariant

pub loop-begun-init : goal.loop-begun-init
loop-begun-init g c = c.loop-come.invariant ∙ ap (filter (goes_on c.args.cuts.now c.args.strip)) (take_all c.loop-come.come-index c.args.crossing.now c.loop-come-test.false)
    ∙ sym (append-nil (filter (goes_on c.args.cuts.now c.args.strip) c.args.crossing.now))

pub loop-begun-preserved : goal.loop-begun-preserved
loop-begun-preserved g c = let test = goes_on c.args.cuts.now c.args.strip in
    more_kept test c.args.own.now c.loop-begun.begun-index c.begun-item.result (filter test c.args.crossing.now) c.loop-begun.going.items _
    c.loop-begun-test.true c.begun-item.is c.in_ok-add_going-2.ensures c.loop-begun.invariant

pub returns : goal.returns
returns g c = λ counted t.
    let test = goes_on c.args.cuts.now c.args.strip in
    let some = filter test c.args.crossing.now in
    let P : List Counted → Type 0 = ComeInto c.args.cuts.now (c.args.strip + 1) counted in
    subst P (sym (c.loop-begun.invariant ∙ ap (λ t. some ++ filter test t) (take_all c.loop-begun.begun-index c.args.own.now c.loop-begun-test.false)))
    (come_into c.args.cuts.now c.args.strip counted c.args.crossing.now c.args.own.now t)
