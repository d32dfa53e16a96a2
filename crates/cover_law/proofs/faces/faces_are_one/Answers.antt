-- The law is a lemma of its own.
use Rattle.cover_law.proofs.FaceLaws.{faces_are_one}
use Rattle.cover_law.proofs.faces.faces_are_one.Goals as goal

pub returns : goal.returns
returns c = faces_are_one
