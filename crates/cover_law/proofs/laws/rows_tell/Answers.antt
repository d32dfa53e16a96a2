-- The law is a lemma of its own.
use Rattle.cover_law.proofs.RowLayers.{rows_tell}
use Rattle.cover_law.proofs.laws.rows_tell.Goals as goal

pub returns : goal.returns
returns c = rows_tell
