-- The law is a lemma of its own.
use Rattle.cover_law.proofs.Beyond.{cover_is_beyond}
use Rattle.cover_law.proofs.laws.cover_is_beyond.Goals as goal

pub returns : goal.returns
returns c = cover_is_beyond
