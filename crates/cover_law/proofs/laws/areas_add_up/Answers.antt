-- The law is a lemma of its own.
use Rattle.cover_law.proofs.AreasAdd.{areas_add_up}
use Rattle.cover_law.proofs.laws.areas_add_up.Goals as goal

pub returns : goal.returns
returns c = areas_add_up
