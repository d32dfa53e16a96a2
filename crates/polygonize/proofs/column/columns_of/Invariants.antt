use Rattle.std.proofs.Common.{take}
use Rattle.polygonize.proofs.EdgesBelow.Columns.{SpreadSoFar}
use Rattle.polygonize.proofs.column.columns_of.Given as goal

abbrev pub invariant-loop-place : goal.invariant-loop-place
invariant-loop-place l = SpreadSoFar l.vertices (take l.place-index l.asked) l.low l.high
