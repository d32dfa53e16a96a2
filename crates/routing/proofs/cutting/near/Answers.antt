use Rattle.routing.proofs.CuttingLaws.{among_none, among_more}
use Rattle.routing.proofs.cutting.near.Goals as goal
use Rattle.routing.proofs.cutting.near.Goals.{then-is_near+in_ok-push, else-is_near}

pub loop-place-init : goal.loop-place-init
loop-place-init g c = rw c.new-kept.ensures.items (among_none c.args.marks.now)

pub loop-place-preserved : goal.loop-place-preserved
loop-place-preserved g c = elim c.if-is_near.branch [
  | then-is_near+in_ok-push w ↦ rw (w.kept-is, w.in_ok-push.ensures.items) (among_more c.args.marks.now c.loop-place.kept.items w.mark_at.result w.mark_at.ensures c.loop-place.invariant)
  | else-is_near w ↦ rw w.kept-is c.loop-place.invariant
]
