use Rattle.std.proofs.Common.{◌≡◌, ◌++◌, ◌∙◌, ap}
use Rattle.label_sweep.specs.Labels.{labels_from, parities_beside}
use Rattle.label_sweep.proofs.Passing.{labelled}
use Rattle.label_sweep.proofs.pass.SweepLine.pass.Goals as goal

pub returns-clause-labelled : goal.returns-clause-labelled
returns-clause-labelled g c all a =
    let t = c.in_ok-lowest.ensures in
    let ss = c.turn.new.self.spokes.items in
    let old = c.args.labelled.now.items in
    let left = parities_beside c.in_ok-lowest.lowest in
    let now : c.label.new.labelled.items ≡ old ++ labels_from left ss =
    c.in_ok-label.ensures ∙ ap (λ at. old ++ labels_from at c.deref.result.now) c.parities_beside.ensures ∙ ap (λ ks. old ++ labels_from left ks) c.deref.ensures.value in
    λ before. rw now (labelled all c.args.own.now c.args.v ss (t.spokes all a) left (t.labels all a) c.args.from c.args.next a.at.begin t.inside old before)
