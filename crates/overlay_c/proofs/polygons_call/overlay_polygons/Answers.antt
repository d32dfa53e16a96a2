use Rattle.overlay_c.specs.Polygons.{ArePolygonColumns, FailsPolygons}
use Rattle.overlay_c.proofs.ColumnsTelling.{fills}
use Rattle.overlay_c.proofs.polygons_call.overlay_polygons.Goals as goal

pub returns : goal.returns
returns c = fills (ArePolygonColumns c.args.directed.now) (FailsPolygons c.args.directed.now)
    c.polygons_made-made.result
    (record { coordinates = c.args.coordinates.now; rings = c.args.rings.now; polygons = c.args.polygons.now })
    (record { coordinates = c.fill_rooms.new.coordinates; rings = c.fill_rooms.new.rings; polygons = c.fill_rooms.new.polygons })
    c.fill_rooms.result c.polygons_made-made.ensures c.fill_rooms.ensures.put
