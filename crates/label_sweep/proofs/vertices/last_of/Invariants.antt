use Rattle.std.proofs.Common.{◌≤◌, ◌-◌, length}
use Rattle.std.specs.List.{AllWithin}
use Rattle.geom.specs.declared.edge.Counted.{Counted}
use Rattle.geom.specs.Order.{IsUpTo}
use Rattle.label_sweep.proofs.vertices.last_of.Given as goal

abbrev pub invariant-loop-next : goal.invariant-loop-next
invariant-loop-next l = (l.from ≤ l.next) × (l.next ≤ length l.counted) × AllWithin (λ (c : Counted). IsUpTo c.edge.p l.v) l.counted l.from l.next

abbrev pub decreases-loop-next : goal.decreases-loop-next
decreases-loop-next l = length l.counted - l.next
