use Rattle.std.proofs.Common.{length}
use Rattle.cover_sets.specs.Sets.{set_of}
use Rattle.cover_sets.proofs.sets.Sets.+push_features.Given as goal

abbrev pub decreases-push_features : goal.decreases-push_features
decreases-push_features g l = length (set_of l.self.now l.set)
