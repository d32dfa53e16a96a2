use Rattle.std.proofs.Common.{◌≡◌, ◌++◌, ◌-◌, ◌≤◌, length, replicate}
use Rattle.layers.proofs.feature_segments.push_owners.Given as goal

abbrev pub invariant-loop-owners : goal.invariant-loop-owners
invariant-loop-owners g l = (l.owners.items ≡ l.fn.owners.items ++ replicate (length l.owners.items - length l.fn.owners.items) l.owner) × (length l.fn.owners.items ≤ length l.owners.items) × (length l.owners.items ≤ l.count)

abbrev pub decreases-loop-owners : goal.decreases-loop-owners
decreases-loop-owners g l = l.count - length l.owners.items
