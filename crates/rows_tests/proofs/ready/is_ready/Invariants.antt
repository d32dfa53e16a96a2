use Rattle.std.proofs.Common.{take}
use Rattle.std.specs.Prelude.{All}
use Rattle.rows.specs.Made.{IsBound}
use Rattle.rows_tests.proofs.ready.is_ready.Given as goal

abbrev pub invariant-loop-row_set : goal.invariant-loop-row_set
invariant-loop-row_set g l = All (IsBound l.sets l.row_edges.edges.items) (take l.row_set-index l.row_sets)
