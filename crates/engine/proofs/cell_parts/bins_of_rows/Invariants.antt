use Rattle.std.proofs.Common.{take}
use Rattle.engine.specs.Rounds.{AreCellRows}
use Rattle.engine.proofs.cell_parts.bins_of_rows.Given as goal

abbrev pub invariant-loop-segment : goal.invariant-loop-segment
invariant-loop-segment g l = AreCellRows l.cells l.from l.past (take l.segment-index l.segments) l.bins
