use Rattle.std.proofs.Common.{take}
use Rattle.distinct.specs.Copies.{AreCopies}
use Rattle.distinct.proofs.in_parts.copies_apart.Given as goal

-- the segments so far, each by itself
abbrev pub invariant-loop-place : goal.invariant-loop-place
invariant-loop-place g l = AreCopies (take l.place l.fn.segments) (take l.place l.fn.segments) l.copies.items
