use Rattle.engine.proofs.alone.copies_alone.Given as goal

abbrev pub ghosts-by_cells_alone : goal.ghosts-by_cells_alone
ghosts-by_cells_alone g a = record { grid = a.cells.now; segments = a.limited.list.now; in_limit = a.limited.in_limit }
