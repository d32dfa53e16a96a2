use Rattle.std.proofs.Common.{◌-◌, length}
use Rattle.wkt.specs.Surveying.{shown}
use Rattle.wkt.specs.Collecting.{view}
use Rattle.wkt.proofs.Collections.{Collected}
use Rattle.wkt.proofs.read.gather.Given as goal

abbrev pub decreases-loop-at : goal.decreases-loop-at
decreases-loop-at g l = length l.text - l.at

abbrev pub invariant-loop-at : goal.invariant-loop-at
invariant-loop-at g l = Collected l.text l.at l.reader (shown l.survey) (view l.collector)
