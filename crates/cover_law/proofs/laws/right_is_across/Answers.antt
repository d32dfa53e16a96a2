-- The law is a lemma of its own.
use Rattle.cover_law.proofs.Covers.{right_is_across}
use Rattle.cover_law.proofs.laws.right_is_across.Goals as goal

pub returns : goal.returns
returns c = right_is_across
