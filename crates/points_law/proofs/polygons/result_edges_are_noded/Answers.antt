-- The law is a lemma of its own.
use Rattle.points_law.proofs.OwnersOfRings.{noded_result}
use Rattle.points_law.proofs.polygons.result_edges_are_noded.Goals as goal

pub returns : goal.returns
returns c = noded_result
