use Rattle.hot_region.proofs.BesideLaws.{parted_all, parted_beside, parted_none, parted_others}
use Rattle.hot_region.proofs.beside.part_at.Goals as goal
use Rattle.hot_region.proofs.beside.part_at.Goals.{then-is_among+in_ok-push, else-is_among+in_ok-push-2}

pub loop-place-init : goal.loop-place-init
loop-place-init g c = rw (c.in_ok-beside.ensures.items, c.new-others.ensures.items) parted_none

pub loop-place-preserved : goal.loop-place-preserved
loop-place-preserved g c = elim c.if-is_among.branch [
  | then-is_among+in_ok-push w ↦ rw (w.beside-is, w.others-is, w.in_ok-push.ensures.items)
      (parted_others c.args.lines.now c.loop-place.place c.index-lines-place.result c.loop-place-test.true c.index-lines-place.is c.loop-place.beside.items c.loop-place.others.items c.loop-place.invariant)
  | else-is_among+in_ok-push-2 w ↦ rw (w.beside-is, w.others-is, w.in_ok-push-2.ensures.items)
      (parted_beside c.args.lines.now c.loop-place.place c.index-lines-place.result c.loop-place-test.true c.index-lines-place.is c.loop-place.beside.items c.loop-place.others.items c.loop-place.invariant)
]

pub returns : goal.returns
returns g c = parted_all c.args.lines.now c.loop-place.place c.loop-place.beside.items c.loop-place.others.items c.loop-place-test.false c.loop-place.invariant
