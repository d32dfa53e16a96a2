use Rattle.polygonize.proofs.EdgesBelow.Reaching.{AreHeightsOf}
use Rattle.polygonize.proofs.short.heights_of.Given as goal

abbrev pub invariant-loop-v : goal.invariant-loop-v
invariant-loop-v g l = AreHeightsOf l.vertices l.v-index l.heights.items
