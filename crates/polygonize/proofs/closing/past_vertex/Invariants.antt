use Rattle.std.proofs.Common.{◌≡◌, ◌<◌, ◌≤◌, ℕ, get_or}
use Rattle.polygonize.specs.declared.closing.EdgeEnd.{EdgeEnd}
use Rattle.polygonize.proofs.closing.past_vertex.Given as goal

-- the ends before this place are at the vertex
abbrev pub invariant-loop-place : goal.invariant-loop-place
invariant-loop-place l = (k : ℕ) (d : EdgeEnd) → l.from ≤ k → k < l.place → (get_or l.ends k d).way.at ≡ (get_or l.ends l.from d).way.at
