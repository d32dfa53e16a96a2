-- The law is a lemma of its own.
use Rattle.strips_law.proofs.Rounded.{lines_ordered}
use Rattle.strips_law.proofs.lines_are_ordered.Goals as goal

pub returns : goal.returns
returns c = lines_ordered
