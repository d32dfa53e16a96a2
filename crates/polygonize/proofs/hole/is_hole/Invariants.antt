use Rattle.std.proofs.Common.{ℕ, ◌<◌}
use Rattle.polygonize.proofs.Holes.{TurnsRight}
use Rattle.polygonize.proofs.hole.is_hole.Given as goal

abbrev pub invariant-loop-i : goal.invariant-loop-i
invariant-loop-i l = (m : ℕ) → m < l.i → ¬ (TurnsRight l.edges.list.now l.ring m)
