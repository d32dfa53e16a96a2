use Rattle.label_sweep.proofs.Words.{ends_are_level}
use Rattle.label_sweep.proofs.laws.ends_are_level.Goals as goal

pub returns : goal.returns
returns c = ends_are_level
