use Rattle.tile_book_tests.proofs.posts.posts_at_the_desk.Given as goal

abbrev pub ghosts-at_the_desk-L-Ledger : goal.ghosts-at_the_desk-L-Ledger
ghosts-at_the_desk-L-Ledger g a = record { name = a.blank.name; parts = a.blank.parts }

abbrev pub ghosts-at_the_desk-L-Limited : goal.ghosts-at_the_desk-L-Limited
ghosts-at_the_desk-L-Limited g a = record { limit = 3 }
