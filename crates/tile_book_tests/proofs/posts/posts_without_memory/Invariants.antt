use Rattle.tile_book_tests.proofs.posts.posts_without_memory.Given as goal

abbrev pub ghosts-without_memory-L-Ledger : goal.ghosts-without_memory-L-Ledger
ghosts-without_memory-L-Ledger g a = record { name = a.blank.name; parts = a.blank.parts }

abbrev pub ghosts-without_memory-L-Limited : goal.ghosts-without_memory-L-Limited
ghosts-without_memory-L-Limited g a = record { limit = 3 }
