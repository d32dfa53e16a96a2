use Rattle.std.proofs.Common.{◌≡◌, ℕ, suc, ◌<◌, ◌+◌, ◌∙◌, List, [], ◌∷◌, ◌++◌, add-one, ap, append_assoc, drop, drop-cons, get_or, length, sym}
use Rattle.std.proofs.lemmas.List.{append-nil, drop_all}
use Rattle.label_sweep.specs.declared.parities.Parities.{Parities}
use Rattle.label_sweep.specs.declared.standing.LabelledEdge.{LabelledEdge}
use Rattle.label_sweep.specs.declared.standing.Spoke.{Spoke}
use Rattle.label_sweep.specs.Labels.{beyond, labels_from}
use Rattle.label_sweep.proofs.turn.label.Goals as goal

one_labelled : (at next : Parities) (spokes : List Spoke) (i : ℕ) (s : Spoke) (old new all : List LabelledEdge) → i < length spokes → s ≡ get_or spokes i s → next ≡ beyond at s.one
    → new ≡ old ++ record { edge = s.one.edge; left = at; right = next } ∷ [] → old ++ labels_from at (drop i spokes) ≡ all → new ++ labels_from next (drop (i + 1) spokes) ≡ all
one_labelled at next spokes i s old new all h is n e before =
    let rest : drop i spokes ≡ s ∷ drop (i + 1) spokes = rw add-one (drop-cons spokes i s h ∙ ap (λ (t : Spoke). t ∷ drop (suc i) spokes) (sym is)) in
    rw (e, n) (append_assoc old (record { edge = s.one.edge; left = at; right = beyond at s.one } ∷ []) (labels_from (beyond at s.one) (drop (i + 1) spokes)) ∙ rw rest at before)

pub loop-spoke-preserved : goal.loop-spoke-preserved
loop-spoke-preserved g c = one_labelled c.loop-spoke.at c.beyond-beyond.result c.args.spokes.now c.loop-spoke.spoke-index c.spoke-item.result c.loop-spoke.labelled.items _ _ c.loop-spoke-test.true c.spoke-item.is c.beyond-beyond.ensures c.in_ok-push.ensures.items c.loop-spoke.invariant

pub returns : goal.returns
returns g c = sym (append-nil c.loop-spoke.labelled.items) ∙ rw (drop_all c.loop-spoke.spoke-index c.args.spokes.now c.loop-spoke-test.false) at c.loop-spoke.invariant
