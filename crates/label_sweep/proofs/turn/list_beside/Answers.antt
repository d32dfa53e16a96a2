use Rattle.std.proofs.Common.{◌≡◌, ℕ, suc, ◌<◌, ◌+◌, ◌∙◌, List, [], ◌∷◌, ◌++◌, add-one, ap, append_assoc, drop, drop-cons, get_or, length, Option, Some, sym}
use Rattle.std.proofs.lemmas.List.{append-nil, drop_all}
use Rattle.geom.specs.declared.edge.Edge.{Edge}
use Rattle.label_sweep.specs.declared.standing.Spoke.{Spoke}
use Rattle.label_sweep.specs.declared.swept.SweptEdge.{SweptEdge}
use Rattle.label_sweep.specs.Swept.{besides_from}
use Rattle.label_sweep.proofs.turn.list_beside.Goals as goal

one_listed : (beside : Option Edge) (spokes : List Spoke) (i : ℕ) (s : Spoke) (old new all : List SweptEdge) → i < length spokes → s ≡ get_or spokes i s
    → new ≡ old ++ record { edge = s.one.edge; beside = beside } ∷ [] → old ++ besides_from beside (drop i spokes) ≡ all → new ++ besides_from (Some s.one.edge) (drop (i + 1) spokes) ≡ all
one_listed beside spokes i s old new all h is e before =
    let rest : drop i spokes ≡ s ∷ drop (i + 1) spokes = rw add-one (drop-cons spokes i s h ∙ ap (λ (t : Spoke). t ∷ drop (suc i) spokes) (sym is)) in
    rw e (append_assoc old (record { edge = s.one.edge; beside = beside } ∷ []) (besides_from (Some s.one.edge) (drop (i + 1) spokes)) ∙ rw rest at before)

pub loop-spoke-preserved : goal.loop-spoke-preserved
loop-spoke-preserved g c = one_listed c.loop-spoke.beside c.args.spokes.now c.loop-spoke.spoke-index c.spoke-item.result c.loop-spoke.swept.items _ _ c.loop-spoke-test.true c.spoke-item.is c.in_ok-push.ensures.items c.loop-spoke.invariant

pub returns : goal.returns
returns g c = sym (append-nil c.loop-spoke.swept.items) ∙ rw (drop_all c.loop-spoke.spoke-index c.args.spokes.now c.loop-spoke-test.false) at c.loop-spoke.invariant
