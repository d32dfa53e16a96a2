-- The law is a lemma of its own.
use Rattle.cover_law.proofs.ChangingEdges.{changing_have_same_rows}
use Rattle.cover_law.proofs.laws.changing_have_same_rows.Goals as goal

pub returns : goal.returns
returns c = changing_have_same_rows
