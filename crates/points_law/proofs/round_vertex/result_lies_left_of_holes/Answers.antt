-- The law is a lemma of its own.
use Rattle.points_law.proofs.RoundVertex.{left_of_hole}
use Rattle.points_law.proofs.round_vertex.result_lies_left_of_holes.Goals as goal

pub returns : goal.returns
returns c = λ op counted directed rings h r are. left_of_hole op counted h directed r rings are
