use Rattle.routing_tests.proofs.pieces.swept.Given as goal

abbrev pub ghosts-sweep_counting : goal.ghosts-sweep_counting
ghosts-sweep_counting g a = record { name = a.blank.name; parts = a.blank.parts }
