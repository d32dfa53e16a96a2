use Rattle.std.proofs.Common.{◌≡◌}
use Rattle.overlay_c.specs.Columns.{FailsColumns, columns_in}
use Rattle.overlay_c.specs.Measured.{AreMeasuredColumns, no_measures}
use Rattle.overlay_c.proofs.ColumnsTelling.{fills}
use Rattle.overlay_c.proofs.measured_call.overlay_measured_columns_fill.Goals as goal

pub returns : goal.returns
returns c =
    let measures = c.measured_columns-made.new.measures in
    fills (λ lists. AreMeasuredColumns c.args.segments c.args.call c.args.side (columns_in c.args.a.now) (columns_in c.args.b.now) lists measures)
    (λ told. FailsColumns c.args.segments c.args.call c.args.side (columns_in c.args.a.now) (columns_in c.args.b.now) told × (measures ≡ no_measures))
    c.measured_columns-made.result
    (record { coordinates = c.args.coordinates.now; rings = c.args.rings.now; polygons = c.args.polygons.now })
    (record { coordinates = c.fill_rooms.new.coordinates; rings = c.fill_rooms.new.rings; polygons = c.fill_rooms.new.polygons })
    c.fill_rooms.result c.measured_columns-made.ensures c.fill_rooms.ensures.put
