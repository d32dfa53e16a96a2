use Rattle.std.proofs.Common.{List, subst}
use Rattle.std.specs.Prelude.{All}
use Rattle.std.proofs.lemmas.List.Quantifiers.{all_pairs_push}
use Rattle.geom.specs.declared.edge.Counted.{Counted}
use Rattle.geom.specs.EdgeOrder.{IsEdgeBefore}
use Rattle.label_sweep_tests.proofs.parts.counted_of.Goals as goal

pub loop-px-preserved : goal.loop-px-preserved
loop-px-preserved g c =
    let counted = c.loop-px.counted.items in
    let edge = c.in-Some.edge in
    let before : All (λ d. IsEdgeBefore d.edge edge) counted = subst (λ (ds : List Counted). All (λ d. IsEdgeBefore d.edge edge) ds) c.deref.ensures.value (c.come_before.ensures c.if-not-come_before.false) in
    rw c.in_ok-push.ensures.items (all_pairs_push (λ (a b : Counted). IsEdgeBefore a.edge b.edge) counted (record { edge = edge; in_a = 1; in_b = 0 }) c.loop-px.invariant before)
