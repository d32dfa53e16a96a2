use Rattle.std.proofs.Common.{◌≡◌, length}
use Rattle.distinct.specs.Kept.{AreKeptOf}
use Rattle.distinct.proofs.keeping.distinct.Given as goal

-- what is kept of the segments so far
abbrev pub invariant-loop-place : goal.invariant-loop-place
invariant-loop-place g l = (length l.segments.items ≡ length l.fn.segments.items) × AreKeptOf l.fn.segments.items l.place l.segments.items l.copies.items
