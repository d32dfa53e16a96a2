use Rattle.std.proofs.Common.{refl, subst, sym, arith}
use Rattle.hands.specs.Consecutive.{ArePartsOf}
use Rattle.hands.proofs.Consecutive.{no_parts, one_more, whole}
use Rattle.hands.proofs.part.parts_of_work.Goals as goal
use Rattle.hands.proofs.part.parts_of_work.Goals.{then-work-share+in_ok-push, else-work-share, then-from-length+in_ok-push-2, else-from-length}

pub loop-place-init : goal.loop-place-init
loop-place-init g c = (subst (λ ps. ArePartsOf 0 0 ps) (sym c.in_ok-all.ensures.items) (no_parts 0), omega arith)

pub loop-place-preserved : goal.loop-place-preserved
loop-place-preserved g c = elim c.if-work-share.branch [
  | then-work-share+in_ok-push w ↦
      (rw (w.all-is, w.from-is, w.in_ok-push.ensures.items) (one_more 0 c.loop-place.from _ _ c.loop-place.invariant.0 refl (omega (arith, c.loop-place.invariant.1))), omega (arith, w.from-is))
  | else-work-share w ↦ (rw (w.all-is, w.from-is) c.loop-place.invariant.0, omega (arith, w.from-is, c.loop-place.invariant.1))
]

pub returns : goal.returns
returns g c = elim c.if-from-length.branch [
  | then-from-length+in_ok-push-2 w ↦
      rw (w.all-is, w.in_ok-push-2.ensures.items) (one_more 0 c.loop-place.from _ _ c.loop-place.invariant.0 refl (omega (arith, w.if-from-length.true)))
  | else-from-length w ↦ rw (w.all-is) (whole 0 c.loop-place.from c.args.length _ (omega (arith, w.if-from-length.false, c.loop-place.invariant.1, c.loop-place.auto.place-end)) c.loop-place.invariant.0)
]
