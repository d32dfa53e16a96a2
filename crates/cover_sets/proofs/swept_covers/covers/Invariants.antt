use Rattle.std.proofs.Common.{◌≡◌, ℕ, ◌<◌, length, get_or, map}
use Rattle.cover_law.specs.Cover.{bordered}
use Rattle.label_sweep.specs.declared.swept.SweptEdge.{SweptEdge}
use Rattle.cover_sets.specs.Sets.{AreSets}
use Rattle.cover_sets.specs.Visited.{IsVisited}
use Rattle.cover_sets.proofs.swept_covers.covers.Given as goal

-- the edges so far have their numbers
abbrev pub invariant-loop-one : goal.invariant-loop-one
invariant-loop-one g l = record {
  sets : AreSets l.covers.sets;
  left : length l.covers.left.items ≡ length l.borders;
  right : length l.covers.right.items ≡ length l.borders;
  visited : (j : ℕ) (d : SweptEdge) → j < l.one-index → IsVisited l.features (map (bordered l.features) l.borders) l.covers.sets l.covers.left.items l.covers.right.items (get_or l.swept j d).edge;
}
