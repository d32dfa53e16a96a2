use Rattle.engine.proofs.OneFaces.{faces_text_is_one}
use Rattle.engine.proofs.laws.faces_text_is_one.Goals as goal

pub returns : goal.returns
returns g c = faces_text_is_one _ _
