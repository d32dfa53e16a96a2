use Rattle.std.proofs.Common.{◌+◌, ◌<◌}
use Rattle.routing.proofs.cutting.common_divisor.Given as goal

abbrev pub invariant-loop-rest : goal.invariant-loop-rest
invariant-loop-rest l = 0 < l.divisor + l.rest

abbrev pub decreases-loop-rest : goal.decreases-loop-rest
decreases-loop-rest l = l.rest
