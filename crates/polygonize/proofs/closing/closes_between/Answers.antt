use Rattle.std.proofs.Common.{refl}
use Rattle.polygonize.proofs.ClosedVertices.Going.{all_more}
use Rattle.polygonize.proofs.closing.closes_between.Goals as goal

pub loop-place-preserved : goal.loop-place-preserved
loop-place-preserved c = all_more c.args.ends.now c.args.from c.args.past c.loop-place.place c.loop-place.invariant (c.if-not-goes_on.ensures.0 refl)
