use Rattle.label_sweep.proofs.Words.{first_left_none}
use Rattle.label_sweep.proofs.laws.first_left.Goals as goal

pub returns : goal.returns
returns c = first_left_none
