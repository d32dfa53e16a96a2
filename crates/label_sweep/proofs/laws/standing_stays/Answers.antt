use Rattle.label_sweep.proofs.Words.{standing_stays}
use Rattle.label_sweep.proofs.laws.standing_stays.Goals as goal

pub returns : goal.returns
returns c = standing_stays
