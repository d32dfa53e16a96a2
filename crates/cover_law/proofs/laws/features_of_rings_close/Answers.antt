-- The law is a lemma of its own.
use Rattle.cover_law.proofs.ClosedFeatures.{features_of_rings_close}
use Rattle.cover_law.proofs.laws.features_of_rings_close.Goals as goal

pub returns : goal.returns
returns c = features_of_rings_close
