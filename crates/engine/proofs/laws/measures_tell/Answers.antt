use Rattle.engine.proofs.Measuring.{layer_area_tells}
use Rattle.engine.proofs.laws.measures_tell.Goals as goal

pub returns : goal.returns
returns c = layer_area_tells
