use Rattle.cover_sets.proofs.sets.Sets.+of_part.Given as goal

abbrev pub decreases-of_part : goal.decreases-of_part
decreases-of_part g l = l.most
