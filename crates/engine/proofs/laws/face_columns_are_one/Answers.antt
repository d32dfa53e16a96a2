use Rattle.engine.proofs.OneFaceColumns.{face_columns_are_one}
use Rattle.engine.proofs.laws.face_columns_are_one.Goals as goal

pub returns : goal.returns
returns g c = face_columns_are_one _ _
