use Rattle.std.specs.Prelude.{slice_range}
use Rattle.std.specs.List.{AllZip}
use Rattle.rows.specs.Made.{IsRowOf}
use Rattle.rows.proofs.parts.rows_of_part.Given as goal

abbrev pub invariant-loop-place : goal.invariant-loop-place
invariant-loop-place g l = AllZip (IsRowOf l.sets l.edges) (slice_range l.row_sets l.fn.part.from l.place) l.rows.items
