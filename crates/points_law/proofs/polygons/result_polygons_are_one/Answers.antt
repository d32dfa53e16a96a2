-- The law is a lemma of its own.
use Rattle.points_law.proofs.OneResult.{one_result}
use Rattle.points_law.proofs.polygons.result_polygons_are_one.Goals as goal

pub returns : goal.returns
returns c = one_result
