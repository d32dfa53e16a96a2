-- The law is a lemma of its own.
use Rattle.strip_polygons.proofs.RangesLaw.{ranges_have_polygons}
use Rattle.strip_polygons.proofs.ranges_law.ranges_have_polygons.Goals as goal

pub returns : goal.returns
returns c = ranges_have_polygons
