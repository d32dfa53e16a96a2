use Rattle.engine.proofs.OneCoveredText.{covered_text_is_one}
use Rattle.engine.proofs.laws.covered_text_is_one.Goals as goal

pub returns : goal.returns
returns g c = covered_text_is_one _ _
