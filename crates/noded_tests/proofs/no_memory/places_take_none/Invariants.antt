use Rattle.noded_tests.proofs.no_memory.places_take_none.Given as goal

abbrev pub ghosts-places : goal.ghosts-places
ghosts-places g a = record { name = a.blank.name; parts = a.blank.parts }
