use Rattle.overlay_c.specs.StripWrite.{AreWrittenTold, FailsWrite}
use Rattle.overlay_c.specs.Columns.{Lists}
use Rattle.overlay_c.proofs.ColumnsTelling.{fills}
use Rattle.overlay_c.proofs.strip_write.overlay_strip_write.Goals as goal

pub returns : goal.returns
returns c =
    let given : Lists = record { coordinates = c.args.made_coordinates.now; rings = c.args.made_rings.now; polygons = c.args.made_polygons.now } in
    fills (AreWrittenTold given) (FailsWrite given) c.columns_written.result
    (record { coordinates = c.args.coordinates.now; rings = c.args.rings.now; polygons = c.args.polygons.now })
    (record { coordinates = c.fill_rooms.new.coordinates; rings = c.fill_rooms.new.rings; polygons = c.fill_rooms.new.polygons })
    c.fill_rooms.result c.columns_written.ensures c.fill_rooms.ensures.put
