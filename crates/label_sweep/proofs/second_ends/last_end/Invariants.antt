use Rattle.std.proofs.Common.{◌≤◌, ◌-◌, length}
use Rattle.std.specs.List.{AllWithin}
use Rattle.geom.specs.Order.{IsUpTo}
use Rattle.label_sweep.proofs.second_ends.last_end.Given as goal

abbrev pub invariant-loop-past : goal.invariant-loop-past
invariant-loop-past l = (l.from ≤ l.past) × (l.past ≤ length l.ends) × AllWithin (λ q. IsUpTo q l.v) l.ends l.from l.past

abbrev pub decreases-loop-past : goal.decreases-loop-past
decreases-loop-past l = length l.ends - l.past
