use Rattle.std.proofs.Common.{take}
use Rattle.face_label.specs.Strip.{AreColumnsFrom}
use Rattle.face_label.proofs.strip.columns_from.Given as goal

abbrev pub invariant-loop-one : goal.invariant-loop-one
invariant-loop-one l = AreColumnsFrom l.fn.first (take l.one-index l.counted) l.low l.high
