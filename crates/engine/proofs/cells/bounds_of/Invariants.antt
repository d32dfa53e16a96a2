use Rattle.engine.proofs.Bounding.{HoldsFirst}
use Rattle.engine.proofs.cells.bounds_of.Given as goal

abbrev pub invariant-loop-segment : goal.invariant-loop-segment
invariant-loop-segment l = HoldsFirst l.segments l.segment-index l.bounds
