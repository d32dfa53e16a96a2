-- The law is a lemma of its own.
use Rattle.cover_law.proofs.InRow.{covered_is_in_row}
use Rattle.cover_law.proofs.laws.covered_is_in_row.Goals as goal

pub returns : goal.returns
returns c = covered_is_in_row
