use Rattle.std.proofs.Common.{◌≡◌, map, take}
use Rattle.faces_text.specs.Text.{rows_text}
use Rattle.rows.specs.Made.{row_of}
use Rattle.engine.proofs.face_text.part_text.Given as goal

abbrev pub invariant-loop-row : goal.invariant-loop-row
invariant-loop-row g l = l.text.items ≡ rows_text l.counts (map row_of (take l.row-index l.rows))
