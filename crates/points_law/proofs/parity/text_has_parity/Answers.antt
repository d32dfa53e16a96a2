-- The law is a lemma of its own.
use Rattle.points_law.proofs.TextParity.{text_has_parity}
use Rattle.points_law.proofs.parity.text_has_parity.Goals as goal

pub returns : goal.returns
returns c = λ op counted h directed r. text_has_parity op counted h directed r
