use Rattle.chain_gather_tests.proofs.gathering.row_made.Given as goal

abbrev pub ghosts-gathered_made : goal.ghosts-gathered_made
ghosts-gathered_made g a = record { grid = a.cells.now; segments = a.limited.list.now; in_limit = a.limited.in_limit }
