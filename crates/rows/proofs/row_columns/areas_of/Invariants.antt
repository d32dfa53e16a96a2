use Rattle.std.proofs.Common.{◌≡◌, map, take}
use Rattle.cover_law.specs.Areas.{row_area}
use Rattle.rows.specs.Made.{row_of}
use Rattle.rows.proofs.row_columns.areas_of.Given as goal

abbrev pub invariant-loop-row : goal.invariant-loop-row
invariant-loop-row g l = l.areas.items ≡ map (λ r. row_area (row_of r)) (take l.row-index l.rows)
