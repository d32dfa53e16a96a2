-- The law is a lemma of its own.
use Rattle.cover_law.proofs.RoundedBorders.{rounded_are_borders}
use Rattle.cover_law.proofs.laws.rounded_are_borders.Goals as goal

pub returns : goal.returns
returns c = rounded_are_borders
