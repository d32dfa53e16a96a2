use Rattle.std.proofs.Common.{◌≤◌, length}
use Rattle.std.specs.List.{All, AllWithin, Contains}
use Rattle.geom.specs.declared.edge.Counted.{Counted}
use Rattle.geom.specs.Rounded.{edges_of}
use Rattle.label_sweep.specs.Status.{IsVertexOf}
use Rattle.label_sweep.proofs.vertices.add_second_ends.Given as goal

-- the table has only ends that are listed; the list has the first ends, the second ends from a number on, and no other points
abbrev pub invariant-loop-number : goal.invariant-loop-number
invariant-loop-number g l = (l.number ≤ length l.counted) × All (Contains l.ends.items) l.held × All (λ (c : Counted). Contains l.ends.items c.edge.p) l.counted
    × AllWithin (λ (c : Counted). Contains l.ends.items c.edge.q) l.counted l.number (length l.counted) × All (IsVertexOf (edges_of l.counted)) l.ends.items

abbrev pub decreases-loop-number : goal.decreases-loop-number
decreases-loop-number g l = l.number
