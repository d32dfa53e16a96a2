use Rattle.label_sweep.proofs.Words.{left_of_next}
use Rattle.label_sweep.proofs.laws.left_of_next.Goals as goal

pub returns : goal.returns
returns c = left_of_next
