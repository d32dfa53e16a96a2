use Rattle.label_sweep.proofs.Words.{right_is_beyond}
use Rattle.label_sweep.proofs.laws.right_is_beyond.Goals as goal

pub returns : goal.returns
returns c = right_is_beyond
