use Rattle.std.proofs.Common.{◌-◌, length}
use Rattle.wkt.specs.Surveying.{shown}
use Rattle.wkt.proofs.Checks.{Checked}
use Rattle.wkt.proofs.check.check_layer_within.Given as goal

abbrev pub decreases-loop-at : goal.decreases-loop-at
decreases-loop-at l = length l.text - l.at

abbrev pub invariant-loop-at : goal.invariant-loop-at
invariant-loop-at l = Checked l.text l.at l.reader (shown l.survey)
