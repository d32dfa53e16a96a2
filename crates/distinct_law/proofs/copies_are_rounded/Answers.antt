-- The law is a lemma of its own.
use Rattle.distinct_law.proofs.Copied.{copies_rounded}
use Rattle.distinct_law.proofs.copies_are_rounded.Goals as goal

pub returns : goal.returns
returns c = copies_rounded
