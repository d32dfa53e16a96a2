use Rattle.std.proofs.Common.{◌≡◌, ℕ, suc, ◌<◌, ◌+◌, ◌∙◌, List, [], ◌∷◌, ◌++◌, add-one, ap, append_assoc, drop, drop-cons, get_or, length, reverse, sym}
use Rattle.std.proofs.lemmas.List.{append-nil, drop_all}
use Rattle.std.specs.Prelude.{if◌then◌else◌, int_lt}
use Rattle.label_sweep.specs.declared.parities.Parities.{Parities}
use Rattle.label_sweep.specs.declared.standing.Spoke.{Spoke}
use Rattle.label_sweep.specs.declared.standing.StandingEdge.{StandingEdge}
use Rattle.label_sweep.specs.Labels.{beyond, standing_of, stands_from}
use Rattle.label_sweep.proofs.turn.stand.Goals as goal

one_standing : (at next : Parities) (spokes : List Spoke) (i : ℕ) (s : Spoke) (old new all : List StandingEdge) → i < length spokes → s ≡ get_or spokes i s → next ≡ beyond at s.one
    → new ≡ old ++ (if int_lt s.one.edge.p.x s.one.edge.q.x then standing_of s next ∷ [] else []) → old ++ stands_from at (drop i spokes) ≡ all → new ++ stands_from next (drop (i + 1) spokes) ≡ all
one_standing at next spokes i s old new all h is n e before =
    let rest : drop i spokes ≡ s ∷ drop (i + 1) spokes = rw add-one (drop-cons spokes i s h ∙ ap (λ (t : Spoke). t ∷ drop (suc i) spokes) (sym is)) in
    rw (e, n) (append_assoc old (if int_lt s.one.edge.p.x s.one.edge.q.x then standing_of s (beyond at s.one) ∷ [] else []) (stands_from (beyond at s.one) (drop (i + 1) spokes)) ∙ rw rest at before)

pub loop-spoke-preserved : goal.loop-spoke-preserved
loop-spoke-preserved g c = one_standing c.loop-spoke.at c.beyond-at.result c.args.spokes.now c.loop-spoke.spoke-index c.spoke-item.result c.loop-spoke.fresh.items _ _ c.loop-spoke-test.true c.spoke-item.is c.beyond-at.ensures c.in_ok-add_standing.ensures c.loop-spoke.invariant

pub returns : goal.returns
returns g c = c.reverse.ensures.items ∙ ap reverse (sym (append-nil c.loop-spoke.fresh.items) ∙ rw (drop_all c.loop-spoke.spoke-index c.args.spokes.now c.loop-spoke-test.false) at c.loop-spoke.invariant)
