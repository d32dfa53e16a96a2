use Rattle.tile_book_tests.proofs.memory.refuses_where_memory_does.Given as goal

abbrev pub ghosts-fit_beside-L-Ledger : goal.ghosts-fit_beside-L-Ledger
ghosts-fit_beside-L-Ledger g a = record { name = a.blank.name; parts = a.blank.parts }

abbrev pub ghosts-fit_beside-L-Limited : goal.ghosts-fit_beside-L-Limited
ghosts-fit_beside-L-Limited g a = record { limit = 8 }
