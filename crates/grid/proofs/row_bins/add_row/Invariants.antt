use Rattle.std.proofs.Common.{◌<◌, ◌≤◌}
use Rattle.grid.specs.Bins.{AreGiven, lists_of}
use Rattle.grid.proofs.row_bins.add_row.Given as goal

abbrev pub invariant-loop-tile : goal.invariant-loop-tile
invariant-loop-tile g l = AreGiven (λ k. (l.from ≤ k) × (k < l.tile)) l.number (lists_of l.initial.bins) (lists_of l.bins)
