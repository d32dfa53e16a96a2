use Rattle.std.proofs.Common.{◌≡◌, ◌-◌, ◌<◌, ◌≤◌}
use Rattle.polygonize.specs.Below.{AreFloors, AreNearerFor}
use Rattle.polygonize.proofs.short.add_edge.Given as goal

abbrev pub invariant-loop-at : goal.invariant-loop-at
invariant-loop-at l = AreNearerFor l.edges.list.now l.vertices (λ r. (l.part.from ≤ r) × (r < l.at) × (r < l.part.past)) (λ k. k ≡ l.number) l.initial.best l.best
    × AreFloors l.edges.list.now l.best l.floors

abbrev pub decreases-loop-at : goal.decreases-loop-at
decreases-loop-at l = l.part.past - l.at
