use Rattle.label_sweep.proofs.ChangingEdges.{changing_bound}
use Rattle.label_sweep.proofs.laws.changing_bound.Goals as goal

pub returns : goal.returns
returns c = changing_bound
