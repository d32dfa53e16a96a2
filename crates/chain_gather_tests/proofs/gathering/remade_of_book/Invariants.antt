use Rattle.chain_gather_tests.proofs.gathering.remade_of_book.Given as goal

abbrev pub ghosts-gathered-L-Ledger : goal.ghosts-gathered-L-Ledger
ghosts-gathered-L-Ledger g a = record { name = a.blank.name; parts = a.blank.parts }

abbrev pub ghosts-gathered-L-Limited : goal.ghosts-gathered-L-Limited
ghosts-gathered-L-Limited g a = record { limit = 4 }
