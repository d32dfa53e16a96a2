-- The law is a lemma of its own.
use Rattle.covered.proofs.CoveredPolygons.{covered_polygons_tell}
use Rattle.covered.proofs.laws.covered_polygons_tell.Goals as goal

pub returns : goal.returns
returns c = covered_polygons_tell
