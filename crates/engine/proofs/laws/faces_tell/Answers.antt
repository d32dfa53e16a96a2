use Rattle.engine.proofs.FacesTell.{written_faces_tell}
use Rattle.engine.proofs.laws.faces_tell.Goals as goal

pub returns : goal.returns
returns g c = written_faces_tell _
