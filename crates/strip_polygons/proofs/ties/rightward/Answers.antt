use Rattle.strip_polygons.proofs.TiesRightward.{none_rightward, one_rightward}
use Rattle.strip_polygons.proofs.ties.rightward.Goals as goal
use Rattle.strip_polygons.proofs.ties.rightward.Goals.{then-goes_right+in_ok-push, else-goes_right}

pub loop-place-preserved : goal.loop-place-preserved
loop-place-preserved g c = elim c.if-goes_right.branch [
  | then-goes_right+in_ok-push w ↦ rw (w.places-is, w.in_ok-push.ensures.items) (one_rightward c.args.directed.now c.loop-place.place
      c.loop-place.places.items (c.goes_right.ensures.yes w.if-goes_right.true) c.loop-place.invariant)
  | else-goes_right w ↦ rw w.places-is (none_rightward c.args.directed.now c.loop-place.place c.loop-place.places.items
      (c.goes_right.ensures.no w.if-goes_right.false) c.loop-place.invariant)
]
