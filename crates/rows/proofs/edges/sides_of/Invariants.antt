use Rattle.std.proofs.Common.{◌≡◌, ◌++◌, drop}
use Rattle.rows.specs.RowEdges.{sides}
use Rattle.rows.proofs.edges.sides_of.Given as goal

-- the sides so far, and those of the rest
abbrev pub invariant-loop-number : goal.invariant-loop-number
invariant-loop-number g l = l.list.items ++ sides (drop l.number l.borders) (drop l.number l.left) (drop l.number l.right) ≡ sides l.borders l.left l.right
