use Rattle.rows.proofs.Behind.{AreShapedTo}
use Rattle.rows.proofs.row_columns.polygons_of.Given as goal

abbrev pub invariant-loop-row : goal.invariant-loop-row
invariant-loop-row g l = AreShapedTo l.fn.rows.items l.row-iterator.rest.items l.all
