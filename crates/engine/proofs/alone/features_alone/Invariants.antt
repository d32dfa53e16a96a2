use Rattle.engine.proofs.alone.features_alone.Given as goal

abbrev pub ghosts-features_by_cells_alone : goal.ghosts-features_by_cells_alone
ghosts-features_by_cells_alone g a = record { grid = a.cells.now; segments = a.limited.list.now; in_limit = a.limited.in_limit }
