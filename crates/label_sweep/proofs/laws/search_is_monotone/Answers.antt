use Rattle.label_sweep.proofs.Words.{search_is_monotone}
use Rattle.label_sweep.proofs.laws.search_is_monotone.Goals as goal

pub returns : goal.returns
returns c = search_is_monotone
