use Rattle.strip_polygons.proofs.RangesInOrder.{strips_together}
use Rattle.strip_polygons.proofs.RangesLaw.{ranges_have_polygons}
use Rattle.overlay_c.proofs.StripsWritten.{strips_written}
use Rattle.overlay_c.proofs.strip_law.strips_are_written.Goals as goal

pub returns : goal.returns
returns c = strips_written (strips_together ranges_have_polygons)
