use Rattle.label_sweep.proofs.Straight.{left_of_end}
use Rattle.label_sweep.proofs.laws.left_of_end.Goals as goal

pub returns : goal.returns
returns c = left_of_end
