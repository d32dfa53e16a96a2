use Rattle.tiling_tests.proofs.bins.bins_of_the_table.Given as goal

abbrev pub ghosts-is_found : goal.ghosts-is_found
ghosts-is_found g a = record { name = a.blank.name; parts = a.blank.parts }
