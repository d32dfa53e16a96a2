-- The law is a lemma of its own.
use Rattle.strips_law.proofs.Rounded.{strips_rounded}
use Rattle.strips_law.proofs.strips_are_rounded.Goals as goal

pub returns : goal.returns
returns c = strips_rounded
