use Rattle.std.proofs.Common.{take}
use Rattle.linking.specs.Gathered.{AreBoxesOf}
use Rattle.chain_gather_tests.proofs.gathering.boxes_of.Given as goal

abbrev pub invariant-loop-segment : goal.invariant-loop-segment
invariant-loop-segment g l = AreBoxesOf (take l.segment-index l.segments) l.boxes
