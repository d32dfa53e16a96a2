use Rattle.cover_sets.proofs.sets.Sets.+exchanged.Given as goal

abbrev pub decreases-exchanged : goal.decreases-exchanged
decreases-exchanged g l = l.most
