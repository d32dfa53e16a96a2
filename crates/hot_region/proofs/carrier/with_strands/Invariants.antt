use Rattle.hot_region.proofs.CarrierLaws.{AreCarriedUpTo}
use Rattle.hot_region.proofs.carrier.with_strands.Given as goal

abbrev pub invariant-loop-place : goal.invariant-loop-place
invariant-loop-place g l = AreCarriedUpTo l.fn.course l.fn.low l.fn.high l.lines l.place l.list.items
