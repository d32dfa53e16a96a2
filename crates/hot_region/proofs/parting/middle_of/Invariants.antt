use Rattle.std.proofs.Common.{◌<◌, length}
use Rattle.hot_region.proofs.parting.middle_of.Given as goal

abbrev pub invariant-loop-place : goal.invariant-loop-place
invariant-loop-place l = l.middle < length l.lines
