use Rattle.routing.proofs.spread.+add_spread.Given as goal

abbrev pub decreases-add_spread : goal.decreases-add_spread
decreases-add_spread g l = l.depth
