use Rattle.std.proofs.Common.{true, ◌≡◌, ◌+◌, ◌-◌, ◌≤◌, length, map, take, drop}
use Rattle.std.specs.Prelude.{All, vec_len}
use Rattle.polygonize.specs.Placed.{points, stands_as_hole}
use Rattle.polygonize.proofs.polygon.holes_from.Given as goal

abbrev pub invariant-loop-end : goal.invariant-loop-end
invariant-loop-end g l = (l.end ≡ l.start + vec_len l.holes) × (l.end ≤ length l.written) × (l.holes.items ≡ map (points l.edges) (take (vec_len l.holes) (drop l.start l.written))) × All (λ w. stands_as_hole w ≡ true) (take (vec_len l.holes) (drop l.start l.written))

abbrev pub decreases-loop-end : goal.decreases-loop-end
decreases-loop-end g l = length l.written - l.end
