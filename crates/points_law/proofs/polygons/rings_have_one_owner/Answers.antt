-- The law is a lemma of its own.
use Rattle.points_law.proofs.OwnersOfRings.{has_one_owner}
use Rattle.points_law.proofs.polygons.rings_have_one_owner.Goals as goal

pub returns : goal.returns
returns c = has_one_owner
