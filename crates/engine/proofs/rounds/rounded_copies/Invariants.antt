use Rattle.grid.specs.Tiles.{tile_count}
use Rattle.engine.proofs.rounds.rounded_copies.Given as goal

abbrev pub ghosts-by_cells-L-Ledger : goal.ghosts-by_cells-L-Ledger
ghosts-by_cells-L-Ledger g a = record { name = a.blank.name; parts = a.blank.parts }

abbrev pub ghosts-by_cells-L-Limited : goal.ghosts-by_cells-L-Limited
ghosts-by_cells-L-Limited g a = record { limit = tile_count a.cells.now }

abbrev pub ghosts-by_cells-T-Tiled : goal.ghosts-by_cells-T-Tiled
ghosts-by_cells-T-Tiled g a = record { grid = a.cells.now; segments = a.limited.list.now; in_limit = a.limited.in_limit }
