-- The law is a lemma of its own.
use Rattle.cover_law.proofs.FeatureLayers.{feature_is_layer}
use Rattle.cover_law.proofs.laws.feature_is_layer.Goals as goal

pub returns : goal.returns
returns c = feature_is_layer
