-- The law is a lemma of its own.
use Rattle.strips_law.proofs.Bridged.{bridged}
use Rattle.strips_law.proofs.strips_are_bridged.Goals as goal

pub returns : goal.returns
returns c = bridged
