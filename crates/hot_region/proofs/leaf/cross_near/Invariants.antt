use Rattle.hot_region.specs.Halving.{edges_of}
use Rattle.hot_region.proofs.BoxLaws.{HasCrossedBut}
use Rattle.hot_region.proofs.leaf.cross_near.Given as goal

abbrev pub invariant-loop-near : goal.invariant-loop-near
invariant-loop-near g l = HasCrossedBut l.rect l.line.edge (edges_of l.others) l.near l.initial.found.items l.found.items

abbrev pub decreases-loop-near : goal.decreases-loop-near
decreases-loop-near g l = l.near
