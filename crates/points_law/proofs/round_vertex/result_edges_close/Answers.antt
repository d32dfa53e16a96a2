-- The law is a lemma of its own.
use Rattle.points_law.proofs.RoundVertex.{closes}
use Rattle.points_law.proofs.round_vertex.result_edges_close.Goals as goal

pub returns : goal.returns
returns c = λ op counted directed h r. closes op counted h directed r
