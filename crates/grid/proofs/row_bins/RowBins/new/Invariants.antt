use Rattle.std.proofs.Common.{◌≡◌, ℕ, [], get_or, length}
use Rattle.grid.specs.Bins.{lists_of}
use Rattle.grid.proofs.row_bins.RowBins.new.Given as goal

abbrev pub invariant-loop-tile : goal.invariant-loop-tile
invariant-loop-tile g l = record {
  length : length l.bins.items ≡ l._tile;
  empty : (k : ℕ) → get_or (lists_of l.bins.items) k [] ≡ [];
}
