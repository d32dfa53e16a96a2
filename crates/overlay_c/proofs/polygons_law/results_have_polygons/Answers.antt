use Rattle.overlay_c.proofs.PolygonsTelling.{results_told}
use Rattle.overlay_c.proofs.polygons_law.results_have_polygons.Goals as goal

pub returns : goal.returns
returns c = results_told
