use Rattle.std.proofs.Common.{take}
use Rattle.columns.specs.Answers.{AreColumnsOf}
use Rattle.columns.proofs.answer.columns_of.Given as goal

abbrev pub invariant-loop-polygon : goal.invariant-loop-polygon
invariant-loop-polygon g l = AreColumnsOf (take l.polygon-index l.polygons) l.columns
