use Rattle.std.proofs.Common.{refl}
use Rattle.overlay_c.specs.StripClosed.{AreClosedTold, FailsClosed}
use Rattle.overlay_c.specs.Strips.{two_lists}
use Rattle.overlay_c.proofs.StripTelling.{none_fills, put_fills}
use Rattle.overlay_c.proofs.strip_closed.overlay_strip_closed.Goals as goal

pub returns-in-Ok : goal.returns-in-Ok
returns-in-Ok c = put_fills (AreClosedTold c.args.cuts.now c.args.first c.args.past c.args.known.now) (FailsClosed c.args.cuts.now c.args.first c.args.past c.args.known.now) (two_lists c.args.closed.now c.args.waiting.now)
    (two_lists c.put_two_lists.new.first_room c.put_two_lists.new.second_room) (two_lists c.in-Ok.made.closed.items c.in-Ok.made.waiting.items) c.put_two_lists.result c.in-Ok.ensures
    (rw (← c.deref.ensures.value, ← c.deref-in-Ok.ensures.value) c.put_two_lists.ensures)

pub returns-in-Err : goal.returns-in-Err
returns-in-Err c = none_fills (AreClosedTold c.args.cuts.now c.args.first c.args.past c.args.known.now) (FailsClosed c.args.cuts.now c.args.first c.args.past c.args.known.now) (two_lists c.args.closed.now c.args.waiting.now)
    (two_lists c.args.closed.now c.args.waiting.now) c.in-Err.told c.in-Err.told refl c.in-Err.ensures (record { first = refl; second = refl; third = refl })
