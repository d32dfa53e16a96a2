use Rattle.std.proofs.Common.{◌<◌, ◌+◌, List, subst}
use Rattle.std.specs.Prelude.{All}
use Rattle.std.proofs.lemmas.List.Elements.{All-push}
use Rattle.std.proofs.lemmas.List.Quantifiers.{all_pairs_push}
use Rattle.geom.specs.declared.edge.Counted.{Counted}
use Rattle.geom.specs.Box.{IsInBox}
use Rattle.geom.specs.EdgeOrder.{IsEdgeBefore}
use Rattle.geom.specs.Limit.{AreInLimit}
use Rattle.noded_tests.proofs.rows.counted_in.Goals as goal

pub loop-row-preserved : goal.loop-row-preserved
loop-row-preserved g c =
    let r = c.args.bounds.now in
    let counted = c.loop-row.counted.items in
    let x = c.in-Some.one in
    let before : All (λ d. IsEdgeBefore d.edge x.edge) counted = subst (λ (ds : List Counted). All (λ d. IsEdgeBefore d.edge x.edge) ds) c.deref.ensures.value (c.come_before.ensures c.if-not-come_before.false) in
    rw c.in_ok-push.ensures.items (record {
      inside = All-push (λ (d : Counted). AreInLimit d.edge.p d.edge.q × IsInBox r.lo r.hi d.edge.p × IsInBox r.lo r.hi d.edge.q) counted x c.loop-row.invariant.inside c.in-Some.ensures.inside;
      counted = All-push (λ (d : Counted). 0 < d.in_a + d.in_b) counted x c.loop-row.invariant.counted c.in-Some.ensures.counted;
      ascending = all_pairs_push (λ (a b : Counted). IsEdgeBefore a.edge b.edge) counted x c.loop-row.invariant.ascending before;
    })
