use Rattle.overlay_c.specs.Columns.{Lists}
use Rattle.overlay_c.proofs.StripWrite.{are_whole, bad_polygon_told, bad_ring_told, uneven_told}
use Rattle.overlay_c.proofs.strip_write.refused_columns.Goals as goal

pub returns-then-given-ne0 : goal.returns-then-given-ne0
returns-then-given-ne0 c =
    let given : Lists = record { coordinates = c.args.given.coordinates.now; rings = c.args.given.rings.now; polygons = c.args.given.polygons.now } in
    uneven_told given c.told.result c.if-given-ne0.true c.told.ensures

pub returns-in-Some : goal.returns-in-Some
returns-in-Some c =
    let given : Lists = record { coordinates = c.args.given.coordinates.now; rings = c.args.given.rings.now; polygons = c.args.given.polygons.now } in
    bad_ring_told given c.told-in-Some.result c.if-given-ne0.false c.in-Some.place c.in-Some.ensures c.told-in-Some.ensures

pub returns-in-Some-bad_offset : goal.returns-in-Some-bad_offset
returns-in-Some-bad_offset c =
    let given : Lists = record { coordinates = c.args.given.coordinates.now; rings = c.args.given.rings.now; polygons = c.args.given.polygons.now } in
    bad_polygon_told given c.told-in-Some-bad_offset.result c.if-given-ne0.false c.in_default.ensures c.saturating_sub.result c.saturating_sub.ensures
    c.in-Some-bad_offset.place c.in-Some-bad_offset.ensures c.told-in-Some-bad_offset.ensures

pub returns : goal.returns
returns c =
    let given : Lists = record { coordinates = c.args.given.coordinates.now; rings = c.args.given.rings.now; polygons = c.args.given.polygons.now } in
    are_whole given c.if-given-ne0.false c.in_default.ensures c.saturating_sub.result c.saturating_sub.ensures c.in_default-bad_offset.ensures
