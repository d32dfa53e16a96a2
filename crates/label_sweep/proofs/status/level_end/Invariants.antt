use Rattle.std.proofs.Common.{◌≡◌, ◌≤◌, ◌-◌, ℕ, length, pos, int_le, true}
use Rattle.std.specs.List.{AllWithin}
use Rattle.geom.specs.Determinant.{side}
use Rattle.label_sweep.specs.Slots.{passes}
use Rattle.label_sweep.proofs.status.level_end.Given as goal

abbrev pub invariant-loop-end : goal.invariant-loop-end
invariant-loop-end l = (l.from ≤ l.end) × (l.end ≤ length l.chunk) × AllWithin (λ (i : ℕ). passes (λ s. int_le (pos 0) (side s.spoke.one.edge.p s.spoke.one.edge.q l.v)) l.slots i ≡ true) l.chunk l.from l.end

abbrev pub decreases-loop-end : goal.decreases-loop-end
decreases-loop-end l = length l.chunk - l.end
