use Rattle.phases.proofs.StripLabels.{edges_are_of_strips}
use Rattle.phases.proofs.labelling.edges_are_of_strips.Goals as goal

pub returns : goal.returns
returns c = edges_are_of_strips
