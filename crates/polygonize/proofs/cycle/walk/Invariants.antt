use Rattle.std.proofs.Common.{length, not}
use Rattle.std.specs.Prelude.{count_by}
use Rattle.polygonize.specs.Cycle.{seen_of}
use Rattle.polygonize.proofs.NumberedWalk.{WalksNumbering}
use Rattle.polygonize.proofs.cycle.walk.Given as goal

abbrev pub invariant-loop-at : goal.invariant-loop-at
invariant-loop-at g l = WalksNumbering l.next l.fn.cycle_at l.cycle_at l.start l.at l.number l.fn.numbers.items l.numbers.items

abbrev pub decreases-loop-at : goal.decreases-loop-at
decreases-loop-at g l = count_by not (seen_of (length l.next) l.cycle_at)
