use Rattle.std.proofs.Common.{length}
use Rattle.polygonize.proofs.nearest.+add.Given as goal

abbrev pub decreases-add : goal.decreases-add
decreases-add g l = length l.asked.now
