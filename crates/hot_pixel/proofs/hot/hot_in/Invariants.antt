use Rattle.hot_pixel.proofs.hot.hot_in.Given as goal

abbrev pub ghosts-count_and_sweep : goal.ghosts-count_and_sweep
ghosts-count_and_sweep g a = record { name = a.blank.name; parts = a.blank.parts }
