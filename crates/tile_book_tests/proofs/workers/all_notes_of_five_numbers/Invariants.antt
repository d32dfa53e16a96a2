use Rattle.tile_book_tests.proofs.workers.all_notes_of_five_numbers.Given as goal

abbrev pub ghosts-makes_all-L-Ledger : goal.ghosts-makes_all-L-Ledger
ghosts-makes_all-L-Ledger g a = record { name = a.blank.name; parts = a.blank.parts }

abbrev pub ghosts-makes_all-L-Limited : goal.ghosts-makes_all-L-Limited
ghosts-makes_all-L-Limited g a = record { limit = 5 }
