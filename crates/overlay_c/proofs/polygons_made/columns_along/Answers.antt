use Rattle.overlay_c.proofs.PolygonsTelling.{told_along}
use Rattle.overlay_c.proofs.polygons_made.columns_along.Goals as goal

pub returns : goal.returns
returns c = told_along c.new-directed.result c.args.edges.items c.deref.result.now c.in_ok-polygons.polygons.items c.columns_of.result c.new-directed.ensures c.deref.ensures.value c.requires.closes
    c.in_ok-polygons.ensures.polygons c.in_ok-polygons.ensures.each_edge c.in_ok-polygons.ensures.simple c.in_ok-polygons.ensures.least c.columns_of.ensures.columns
