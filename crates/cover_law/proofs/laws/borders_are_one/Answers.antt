-- The law is a lemma of its own.
use Rattle.cover_law.proofs.RoundedBorders.{borders_are_one}
use Rattle.cover_law.proofs.laws.borders_are_one.Goals as goal

pub returns : goal.returns
returns c = borders_are_one
