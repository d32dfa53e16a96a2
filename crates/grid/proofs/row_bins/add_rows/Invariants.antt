use Rattle.grid.specs.Bins.{AreGiven, lists_of}
use Rattle.grid.proofs.Giving.{IsBelow}
use Rattle.grid.proofs.row_bins.add_rows.Given as goal

abbrev pub invariant-loop-row : goal.invariant-loop-row
invariant-loop-row g l = AreGiven (IsBelow l.grid.columns l.columns l.fn.rows l.row) l.number (lists_of l.initial.bins) (lists_of l.bins)
