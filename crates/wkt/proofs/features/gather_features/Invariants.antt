use Rattle.std.proofs.Common.{◌-◌, length}
use Rattle.wkt.specs.Surveying.{shown}
use Rattle.wkt.specs.FeatureCollecting.{seen}
use Rattle.wkt.proofs.Starts.{Featured}
use Rattle.wkt.proofs.features.gather_features.Given as goal

abbrev pub decreases-loop-at : goal.decreases-loop-at
decreases-loop-at g l = length l.text - l.at

abbrev pub invariant-loop-at : goal.invariant-loop-at
invariant-loop-at g l = Featured l.text l.at l.reader (shown l.survey) (seen l.collector)
