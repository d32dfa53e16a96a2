use Rattle.wkt.proofs.FeatureParts.{SoFar, features_in}
use Rattle.wkt.proofs.feature_lines.features_of_all.Given as goal

-- the features of the parts so far, and the rest behind them
abbrev pub invariant-loop-next : goal.invariant-loop-next
invariant-loop-next g l = SoFar l.lists.items l.starts.items l.before l.outline l.next-iterator.rest.items (features_in l.fn.parts.items)
