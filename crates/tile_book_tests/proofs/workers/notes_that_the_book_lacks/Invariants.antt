use Rattle.tile_book_tests.proofs.workers.notes_that_the_book_lacks.Given as goal

abbrev pub ghosts-makes_the_others-L-Ledger : goal.ghosts-makes_the_others-L-Ledger
ghosts-makes_the_others-L-Ledger g a = record { name = a.blank.name; parts = a.blank.parts }

abbrev pub ghosts-makes_the_others-L-Limited : goal.ghosts-makes_the_others-L-Limited
ghosts-makes_the_others-L-Limited g a = record { limit = 3 }
