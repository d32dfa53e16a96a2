-- The law is a lemma of its own.
use Rattle.parts_law.proofs.Ranges.{ranges_are_joined}
use Rattle.parts_law.proofs.ranges_are_joined.Goals as goal

pub returns : goal.returns
returns c = ranges_are_joined
