use Rattle.engine.proofs.OneFaceColumns.{faces_are_by_columns}
use Rattle.engine.proofs.laws.faces_are_by_columns.Goals as goal

pub returns : goal.returns
returns g c = faces_are_by_columns _ _
