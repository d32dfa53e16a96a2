-- The law is a lemma of its own.
use Rattle.strip_polygons.proofs.RangesInOrder.{strips_together}
use Rattle.strip_polygons.proofs.RangesLaw.{ranges_have_polygons}
use Rattle.strip_polygons.proofs.ranges_law.strips_have_polygons.Goals as goal

pub returns : goal.returns
returns c = strips_together ranges_have_polygons
