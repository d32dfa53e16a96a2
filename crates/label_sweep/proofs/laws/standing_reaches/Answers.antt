use Rattle.label_sweep.proofs.Words.{standing_reaches}
use Rattle.label_sweep.proofs.laws.standing_reaches.Goals as goal

pub returns : goal.returns
returns c = standing_reaches
