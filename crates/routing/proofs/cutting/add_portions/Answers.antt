use Rattle.std.proofs.Common.{refl}
use Rattle.std.proofs.lemmas.List.Elements.{Contains-get_or}
use Rattle.routing.proofs.CuttingLaws.{some_none, some_more, some_last}
use Rattle.routing.proofs.cutting.add_portions.Goals as goal
use Rattle.routing.proofs.cutting.add_portions.Goals.{then-lies_between+in_ok-push, else-lies_between}

pub loop-mark-init : goal.loop-mark-init
loop-mark-init g c = some_none c.args.whole.now c.args.marks.now c.args.portions.now.items

pub loop-mark-preserved : goal.loop-mark-preserved
loop-mark-preserved g c =
    let marks = c.args.marks.now in
    let i = c.loop-mark.mark-index in
    let m = c.mark-item.result in
    elim c.if-lies_between.branch [
      | then-lies_between+in_ok-push w ↦ rw (w.portions-is, w.start-is, w.in_ok-push.ensures.items)
          (some_more c.args.whole.now marks c.loop-mark.start c.args.portions.now.items c.loop-mark.portions.items c.loop-mark.invariant m _ _ (rw c.mark-item.is (Contains-get_or marks i m c.loop-mark-test.true)) (c.lies_between.ensures w.if-lies_between.true) refl refl refl refl refl)
      | else-lies_between w ↦ rw (w.portions-is, w.start-is) c.loop-mark.invariant
    ]

pub returns : goal.returns
returns g c = rw c.in_ok-push-2.ensures.items (some_last c.args.whole.now c.args.marks.now c.loop-mark.start c.args.portions.now.items c.loop-mark.portions.items c.loop-mark.invariant _ refl refl refl)
