use Rattle.phases.proofs.StripLabels.{strip_edges}
use Rattle.phases.proofs.labelling.labels.Goals as goal

pub returns-clause-along : goal.returns-clause-along
returns-clause-along g c = λ counted cuts strip t. c.strip_labels.ensures.along counted (strip_edges cuts strip counted c.args.crossing.now c.args.own.now t)
