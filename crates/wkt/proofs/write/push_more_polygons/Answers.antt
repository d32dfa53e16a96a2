use Rattle.std.proofs.lemmas.List.{take_all}
use Rattle.wkt.specs.Canonical.{polygon_text}
use Rattle.wkt.specs.Readable.{IsReadable}
use Rattle.wkt.proofs.Writing.{text_more, rings_more}
use Rattle.wkt.proofs.write.push_more_polygons.Goals as goal

pub loop-polygon-preserved : goal.loop-polygon-preserved
loop-polygon-preserved g c = (
  text_more polygon_text c.args.polygons.now c.loop-polygon.polygon-index c.polygon-item.result c.polygon-item.result c.args.text.now.items c.loop-polygon.text.items c.extend_from_slice.new.self.items c.push_polygon.new.text.items c.loop-polygon-test.true c.polygon-item.is c.loop-polygon.invariant.0 c.in_ok-extend_from_slice.ensures.items c.in_ok-push_polygon.ensures.text,
  rings_more IsReadable c.args.polygons.now c.loop-polygon.polygon-index c.polygon-item.result c.polygon-item.result c.loop-polygon-test.true c.polygon-item.is c.loop-polygon.invariant.1 c.in_ok-push_polygon.ensures.readable,
)

pub returns-clause-text : goal.returns-clause-text
returns-clause-text g c = rw (take_all c.loop-polygon.polygon-index c.args.polygons.now c.loop-polygon-test.false) at c.loop-polygon.invariant.0

pub returns-clause-readable : goal.returns-clause-readable
returns-clause-readable g c = rw (take_all c.loop-polygon.polygon-index c.args.polygons.now c.loop-polygon-test.false) at c.loop-polygon.invariant.1
