-- The law is a lemma of its own.
use Rattle.cover_law.proofs.Covers.{cover_is_exact}
use Rattle.cover_law.proofs.laws.cover_is_exact.Goals as goal

pub returns : goal.returns
returns c = cover_is_exact
