use Rattle.routing.proofs.cutting.marks_between.Goals as goal

pub returns : goal.returns
returns g c = λ m k. c.in_ok-ends.ensures m (rw c.deref.ensures.value at (c.in_ok-marks.ensures m k))
