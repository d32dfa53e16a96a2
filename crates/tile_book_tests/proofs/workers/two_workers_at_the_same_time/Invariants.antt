use Rattle.tile_book_tests.proofs.workers.two_workers_at_the_same_time.Given as goal

abbrev pub ghosts-two_fill-L-Ledger : goal.ghosts-two_fill-L-Ledger
ghosts-two_fill-L-Ledger g a = record { name = a.blank.name; parts = a.blank.parts }

abbrev pub ghosts-two_fill-L-Limited : goal.ghosts-two_fill-L-Limited
ghosts-two_fill-L-Limited g a = record { limit = 5 }
