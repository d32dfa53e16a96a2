use Rattle.engine.proofs.Measuring.{measures_are_one}
use Rattle.engine.proofs.laws.measures_are_one.Goals as goal

pub returns : goal.returns
returns g c = measures_are_one _ _
