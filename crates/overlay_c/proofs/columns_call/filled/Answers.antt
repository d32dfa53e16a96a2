use Rattle.overlay_c.specs.Columns.{FailsColumns, IsColumnsResult, columns_in}
use Rattle.overlay_c.proofs.ColumnsTelling.{fills}
use Rattle.overlay_c.proofs.columns_call.filled.Goals as goal

pub returns : goal.returns
returns g c = fills (IsColumnsResult c.args.limits.segments c.args.call c.args.side (columns_in c.args.a.now) (columns_in c.args.b.now)) (FailsColumns c.args.limits.segments c.args.call c.args.side (columns_in c.args.a.now) (columns_in c.args.b.now))
    c.columns_result-made.result
    (record { coordinates = c.args.coordinates.now; rings = c.args.rings.now; polygons = c.args.polygons.now })
    (record { coordinates = c.fill_rooms.new.coordinates; rings = c.fill_rooms.new.rings; polygons = c.fill_rooms.new.polygons })
    c.fill_rooms.result c.columns_result-made.ensures c.fill_rooms.ensures.put
