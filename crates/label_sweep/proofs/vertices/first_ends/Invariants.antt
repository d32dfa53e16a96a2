use Rattle.std.specs.List.{All, AllWithin, Contains}
use Rattle.geom.specs.declared.edge.Counted.{Counted}
use Rattle.geom.specs.Rounded.{edges_of}
use Rattle.label_sweep.specs.Status.{IsVertexOf}
use Rattle.label_sweep.proofs.vertices.first_ends.Given as goal

-- the first ends so far, and no other points
abbrev pub invariant-loop-one : goal.invariant-loop-one
invariant-loop-one g l = AllWithin (λ (c : Counted). Contains l.ends.items c.edge.p) l.counted 0 l.one-index × All (IsVertexOf (edges_of l.counted)) l.ends.items
