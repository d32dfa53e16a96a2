use Rattle.std.proofs.Common.{◌∙◌, arith, subst, sym}
use Rattle.std.proofs.lemmas.List.{get_or_default}
use Rattle.geom.specs.declared.edge.Counted.{Counted}
use Rattle.geom.specs.EdgeOrder.{IsEdgeBefore}
use Rattle.phases.proofs.Merges.{first_alone, first_next, merged_all, second_next}
use Rattle.phases.proofs.merging.merged.Goals as goal
use Rattle.phases.proofs.merging.merged.Goals.{then-loop-place-test+else-is_before, else-loop-place-test}

pub loop-place-preserved : goal.loop-place-preserved
loop-place-preserved g c =
    let t = c.loop-place-test.true in
    let first = c.args.first.now in
    let second = c.args.second.now in
    let y = c.index-second-place-in-loop-place.result in (
      omega (arith, t),
      λ up upper others. rw c.in_ok-push.ensures.items (second_next first second c.loop-counted.counted-index c.loop-place.place c.loop-place.list.items up upper others (c.loop-place.invariant.1 up upper others) c.counted-item.result c.loop-counted-test.true c.counted-item.is
          y t c.index-second-place-in-loop-place.is (subst (λ (z : Counted). IsEdgeBefore z.edge c.counted-item.result.edge) (get_or_default second c.loop-place.place c.index-second-place.result y t ∙ sym c.index-second-place-in-loop-place.is) (c.is_before.ensures.before c.if-is_before.true))),
    )

pub loop-counted-preserved : goal.loop-counted-preserved
loop-counted-preserved g c =
    let first = c.args.first.now in
    let second = c.args.second.now in (
      c.loop-place.invariant.0,
      λ up upper others. rw c.in_ok-push-2.ensures.items (elim c.loop-place-test.branch [
        | then-loop-place-test+else-is_before w ↦ first_next first second c.loop-counted.counted-index c.loop-place.place c.loop-place.list.items up upper others (c.loop-place.invariant.1 up upper others) c.counted-item.result c.loop-counted-test.true c.counted-item.is
            w.index-second-place.result w.loop-place-test.true w.index-second-place.is (λ less. w.is_before.ensures.not_before w.if-is_before.false (subst (λ (z : Counted). IsEdgeBefore z.edge c.counted-item.result.edge) w.index-second-place.is less))
        | else-loop-place-test w ↦ first_alone first second c.loop-counted.counted-index c.loop-place.place c.loop-place.list.items up upper others (c.loop-place.invariant.1 up upper others) c.counted-item.result c.loop-counted-test.true c.counted-item.is w.loop-place-test.false
      ]),
    )

pub returns : goal.returns
returns g c up upper others = rw c.in_ok-extend_from_slice.ensures.items (merged_all c.args.first.now c.args.second.now c.loop-counted.counted-index c.loop-counted.place c.loop-counted.list.items c.loop-counted-test.false c.loop-counted.invariant.0 upper (c.loop-counted.invariant.1 up upper others))
