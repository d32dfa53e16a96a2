use Rattle.tiling.proofs.index.Index.find.Given as goal

abbrev pub ghosts-find_from : goal.ghosts-find_from
ghosts-find_from g a = record { name = a.blank.name; parts = a.blank.parts }
