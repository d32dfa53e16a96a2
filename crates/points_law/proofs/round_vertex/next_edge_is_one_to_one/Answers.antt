-- The law is a lemma of its own.
use Rattle.points_law.proofs.RoundVertex.{next_one_to_one}
use Rattle.points_law.proofs.round_vertex.next_edge_is_one_to_one.Goals as goal

pub returns : goal.returns
returns c = next_one_to_one
