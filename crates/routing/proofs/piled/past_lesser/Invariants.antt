use Rattle.std.proofs.Common.{◌-◌, length}
use Rattle.routing.proofs.piled.past_lesser.Given as goal

abbrev pub decreases-loop-place : goal.decreases-loop-place
decreases-loop-place l = length l.records - l.place
