use Rattle.std.proofs.Common.{arith}
use Rattle.polygonize.proofs.ClosesOnce.{closes_of}
use Rattle.polygonize.proofs.LoneWalk.{more_apart}
use Rattle.polygonize.proofs.lone_shells.leave_apart.Goals as goal

pub loop-place-preserved : goal.loop-place-preserved
loop-place-preserved c = (omega arith, more_apart c.args.edges.list.now (closes_of c.args.edges.closes).are_directed c.loop-place.place c.loop-place.invariant.0 (c.are_same.ensures.no c.if-are_same.false) c.loop-place.invariant.1)

pub returns : goal.returns
returns c = λ yes k h. c.loop-place.invariant.1 k (omega (arith, h, c.loop-place-test.false)) h
