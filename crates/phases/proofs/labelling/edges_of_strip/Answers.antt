use Rattle.std.proofs.Common.{[], ap, ◌∙◌}
use Rattle.std.specs.List.{filter}
use Rattle.std.proofs.lemmas.List.{take_all}
use Rattle.phases.specs.Labels.{begins_in}
use Rattle.phases.proofs.StripLabels.{more_kept, own_are}
use Rattle.phases.proofs.labelling.edges_of_strip.Goals as goal

pub loop-one-preserved : goal.loop-one-preserved
loop-one-preserved g c = more_kept (begins_in c.args.cuts.now c.args.strip) c.args.counted.now c.loop-one.one-index c.one-item.result [] c.loop-one.own.items _
    c.loop-one-test.true c.one-item.is c.in_ok-add_own.ensures c.loop-one.invariant

pub returns : goal.returns
returns g c = λ h. own_are c.args.cuts.now c.args.strip c.args.counted.now h c.loop-one.own.items
    (c.loop-one.invariant ∙ ap (filter (begins_in c.args.cuts.now c.args.strip)) (take_all c.loop-one.one-index c.args.counted.now c.loop-one-test.false))
