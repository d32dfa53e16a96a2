use Rattle.label_sweep.proofs.Labelling.{turn_is_labelled}
use Rattle.label_sweep.proofs.laws.turn_is_labelled.Goals as goal

pub returns : goal.returns
returns c = turn_is_labelled
