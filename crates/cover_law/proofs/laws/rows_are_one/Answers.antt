-- The law is a lemma of its own.
use Rattle.cover_law.proofs.OneRows.{rows_are_one}
use Rattle.cover_law.proofs.laws.rows_are_one.Goals as goal

pub returns : goal.returns
returns c = rows_are_one
