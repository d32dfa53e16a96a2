use Rattle.std.proofs.Common.{◌≡◌, ◌++◌, drop}
use Rattle.covered.specs.Sides.{directed_of}
use Rattle.covered.proofs.edges.directed_edges.Given as goal

-- the directed edges so far, and those of the rest
abbrev pub invariant-loop-number : goal.invariant-loop-number
invariant-loop-number g l =
    l.list.items ++ directed_of l.op l.split l.covers.sets (drop l.number l.borders) (drop l.number l.covers.left.items) (drop l.number l.covers.right.items)
    ≡ directed_of l.op l.split l.covers.sets l.borders l.covers.left.items l.covers.right.items
