-- The law is a lemma of its own.
use Rattle.covered.proofs.CoveredLayers.{covered_is_layer}
use Rattle.covered.proofs.laws.covered_is_layer.Goals as goal

pub returns : goal.returns
returns c = covered_is_layer
