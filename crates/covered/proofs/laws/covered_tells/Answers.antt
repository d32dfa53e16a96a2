-- The law is a lemma of its own.
use Rattle.covered.proofs.CoveredLayers.{covered_tells}
use Rattle.covered.proofs.laws.covered_tells.Goals as goal

pub returns : goal.returns
returns c = covered_tells
