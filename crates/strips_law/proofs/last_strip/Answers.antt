-- The law is a lemma of its own.
use Rattle.strips_law.proofs.Last.{last_strip}
use Rattle.strips_law.proofs.last_strip.Goals as goal

pub returns : goal.returns
returns c = last_strip
