use Rattle.std.proofs.Common.{ℕ, ◌<◌, ◌≤◌}
use Rattle.std.specs.Prelude.{◌≤ℤ◌}
use Rattle.polygonize.specs.Below.{vertex_at}
use Rattle.polygonize.proofs.short.first_past_near.Given as goal

abbrev pub invariant-loop-past : goal.invariant-loop-past
invariant-loop-past l = (r : ℕ) → l.from ≤ r → r < l.past → (vertex_at l.vertices r).x ≤ℤ l.column
