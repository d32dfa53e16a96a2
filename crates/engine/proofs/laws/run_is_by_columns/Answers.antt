use Rattle.engine.proofs.OneColumns.{run_is_by_columns}
use Rattle.engine.proofs.laws.run_is_by_columns.Goals as goal

pub returns : goal.returns
returns g c = run_is_by_columns _ _
