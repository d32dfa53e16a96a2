use Rattle.tile_book_tests.proofs.posts.book_of_no_numbers.Given as goal

abbrev pub ghosts-no_numbers-L-Ledger : goal.ghosts-no_numbers-L-Ledger
ghosts-no_numbers-L-Ledger g a = record { name = a.blank.name; parts = a.blank.parts }

abbrev pub ghosts-no_numbers-L-Limited : goal.ghosts-no_numbers-L-Limited
ghosts-no_numbers-L-Limited g a = record { limit = 0 }
