-- The law is a lemma of its own.
use Rattle.points_law.proofs.RoundVertex.{grounded}
use Rattle.points_law.proofs.round_vertex.holes_are_grounded.Goals as goal

pub returns : goal.returns
returns c = λ op counted directed rings h r are. grounded op counted h directed r rings are
