use Rattle.std.proofs.Common.{not}
use Rattle.std.specs.Prelude.{count_by}
use Rattle.polygonize.proofs.LoneWalk.{WalksOn}
use Rattle.polygonize.proofs.lone_shells.walk.Given as goal

abbrev pub invariant-loop-at : goal.invariant-loop-at
invariant-loop-at g l = WalksOn l.edges.list.now l.fn.seen l.seen l.start l.at l.cycle.items

abbrev pub decreases-loop-at : goal.decreases-loop-at
decreases-loop-at g l = count_by not l.seen
