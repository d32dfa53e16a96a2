use Rattle.label_sweep.proofs.ChangingEdges.{changing_are_layers}
use Rattle.label_sweep.proofs.laws.changing_are_layers.Goals as goal

pub returns : goal.returns
returns c = changing_are_layers
