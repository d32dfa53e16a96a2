-- The law is a lemma of its own.
use Rattle.strips_law.proofs.Rounded.{lines_follow}
use Rattle.strips_law.proofs.lines_follow.Goals as goal

pub returns : goal.returns
returns c = lines_follow
