-- The law is a lemma of its own.
use Rattle.strips_law.proofs.Local.{strip_local}
use Rattle.strips_law.proofs.strip_is_local.Goals as goal

pub returns : goal.returns
returns c = strip_local
