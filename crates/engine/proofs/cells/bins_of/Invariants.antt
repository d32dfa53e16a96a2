use Rattle.std.proofs.Common.{take}
use Rattle.engine.specs.Rounds.{AreCellBins}
use Rattle.engine.proofs.cells.bins_of.Given as goal

abbrev pub invariant-loop-segment : goal.invariant-loop-segment
invariant-loop-segment g l = AreCellBins l.cells (take l.segment-index l.segments) l.bins
