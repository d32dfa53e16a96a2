-- The law is a lemma of its own.
use Rattle.cover_law.proofs.Beyond.{outside_is_empty}
use Rattle.cover_law.proofs.laws.outside_is_empty.Goals as goal

pub returns : goal.returns
returns c = outside_is_empty
