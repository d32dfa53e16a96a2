use Rattle.std.proofs.Common.{◌≡◌, map, take}
use Rattle.engine.specs.FaceRows.{uncounted}
use Rattle.engine.proofs.face_rows.uncounted_of.Given as goal

abbrev pub invariant-loop-border : goal.invariant-loop-border
invariant-loop-border g l = l.list.items ≡ map uncounted (take l.border-index l.borders)
