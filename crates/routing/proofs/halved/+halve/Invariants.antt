use Rattle.routing.proofs.halved.+halve.Given as goal

abbrev pub decreases-halve : goal.decreases-halve
decreases-halve g l = l.depth
