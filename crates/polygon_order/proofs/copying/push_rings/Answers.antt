use Rattle.std.proofs.Common.{◌∙◌, ◌++◌, ◌+◌, ◌<◌, [], length, get_or, refl, arith}
use Rattle.std.specs.Prelude.{slice_range}
use Rattle.columns.specs.Layout.{pairs}
use Rattle.polygon_order.specs.Order.{rings_of}
use Rattle.polygon_order.proofs.Copied.{ring_behind}
use Rattle.polygon_order.proofs.Cuts.{length_cut}
use Rattle.polygon_order.proofs.copying.push_rings.Goals as goal

pub loop-ring-preserved : goal.loop-ring-preserved
loop-ring-preserved g c =
    let columns = c.args.columns in
    let all = rings_of columns.coordinates.now columns.rings.now in
    let first = c.args.first in
    let ring = c.loop-ring.ring in
    let count = length_cut columns.rings.now (pairs columns.coordinates.now) in
    let below : ring < length all = omega (arith, count, c.requires.inside, c.loop-ring-test.true) in
    record {
      rings = λ rings h. ring_behind rings all first ring (ring + 1) c.push_ring.new.made c.loop-ring.auto.ring below refl
          (c.in_ok-push_ring.ensures.rings (rings ++ slice_range all first ring) (get_or all ring []) (c.loop-ring.invariant.rings rings h) c.ring_at.ensures);
      polygons = c.push_ring.ensures.polygons ∙ c.loop-ring.invariant.polygons;
    }
