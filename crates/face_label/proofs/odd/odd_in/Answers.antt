use Rattle.std.proofs.Common.{sym}
use Rattle.geom.proofs.Listing.{odd_more}
use Rattle.face_label.proofs.odd.odd_in.Goals as goal

pub loop-one-preserved : goal.loop-one-preserved
loop-one-preserved g c = odd_more c.args.layer c.args.counted.now c.loop-one.one-index c.one-item.result c.loop-one.odd.items c.add_odd.new.odd.items c.loop-one-test.true (sym c.one-item.is) c.loop-one.invariant c.in_ok-add_odd.ensures
