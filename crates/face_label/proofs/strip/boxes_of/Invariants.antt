use Rattle.std.proofs.Common.{take}
use Rattle.face_label.specs.Strip.{AreBoxesOf}
use Rattle.face_label.proofs.strip.boxes_of.Given as goal

abbrev pub invariant-loop-edge : goal.invariant-loop-edge
invariant-loop-edge g l = AreBoxesOf (take l.edge-index l.edges) l.boxes
