use Rattle.std.proofs.Common.{take}
use Rattle.noding_test.specs.Passes.{AreBoxesOfEdges}
use Rattle.noding_test.proofs.noding.boxes_of.Given as goal

abbrev pub invariant-loop-item : goal.invariant-loop-item
invariant-loop-item g l = AreBoxesOfEdges (take l.item-index l.counted) l.boxes
