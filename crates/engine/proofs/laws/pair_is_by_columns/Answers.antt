use Rattle.engine.proofs.OnePair.{pair_is_by_columns}
use Rattle.engine.proofs.laws.pair_is_by_columns.Goals as goal

pub returns : goal.returns
returns g c = pair_is_by_columns _ _
