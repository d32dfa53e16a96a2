use Rattle.tile_book_tests.proofs.workers.one_worker_of_five_numbers.Given as goal

abbrev pub ghosts-works_so-L-Ledger : goal.ghosts-works_so-L-Ledger
ghosts-works_so-L-Ledger g a = record { name = a.blank.name; parts = a.blank.parts }

abbrev pub ghosts-works_so-L-Limited : goal.ghosts-works_so-L-Limited
ghosts-works_so-L-Limited g a = record { limit = a.limit }
