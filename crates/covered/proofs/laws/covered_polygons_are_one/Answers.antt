-- The law is a lemma of its own.
use Rattle.covered.proofs.CoveredPolygons.{covered_polygons_are_one}
use Rattle.covered.proofs.laws.covered_polygons_are_one.Goals as goal

pub returns : goal.returns
returns c = covered_polygons_are_one
