-- The law is a lemma of its own.
use Rattle.faces_text.proofs.OneText.{faces_text_is_one}
use Rattle.faces_text.proofs.laws.faces_text_is_one.Goals as goal

pub returns : goal.returns
returns c = faces_text_is_one
