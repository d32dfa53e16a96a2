-- The law is a lemma of its own.
use Rattle.cover_law.proofs.FaceLaws.{faces_tell}
use Rattle.cover_law.proofs.faces.faces_tell.Goals as goal

pub returns : goal.returns
returns c = faces_tell
