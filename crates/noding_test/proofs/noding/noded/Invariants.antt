use Rattle.grid.specs.Tiles.{tile_count}
use Rattle.noding_test.proofs.noding.noded.Given as goal

abbrev pub ghosts-least_bad_of-L-Ledger : goal.ghosts-least_bad_of-L-Ledger
ghosts-least_bad_of-L-Ledger g a = record { name = a.blank.name; parts = a.blank.parts }

abbrev pub ghosts-least_bad_of-L-Limited : goal.ghosts-least_bad_of-L-Limited
ghosts-least_bad_of-L-Limited g a = record { limit = tile_count a.grid.now }
