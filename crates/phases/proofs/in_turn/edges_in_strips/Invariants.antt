use Rattle.std.proofs.Common.{◌≡◌, ◌+◌, ◌<◌, ◌≤◌, ℕ, [], List, get_or, length, vec_len}
use Rattle.strips_law.specs.declared.line.Line.{Line}
use Rattle.strips_law.specs.Strips.{AreLinesFrom, lines_in}
use Rattle.phases.specs.Merged.{AreFound, lists_of}
use Rattle.phases.specs.Scattered as scattered
use Rattle.phases.proofs.in_turn.edges_in_strips.Given as goal

abbrev pub invariant-loop-lines : goal.invariant-loop-lines
invariant-loop-lines g l =
    (length l.lists.items ≤ length l.cuts + 1)
    × ((all : List Line) × AreLinesFrom 0 l.fn.segments all × ((k : ℕ) → k < length l.lists.items → get_or (scattered.lists_of l.lists.items) k [] ≡ lines_in l.cuts k all)
    × ∥ AreFound l.cuts all (length l.lists.items) (lists_of l.found.edges.items) l.found.carried.items ∥₁)

abbrev pub decreases-loop-lines : goal.decreases-loop-lines
decreases-loop-lines g l = vec_len l.lists
