use Rattle.std.proofs.Common.{refl}
use Rattle.overlay_c.specs.Strips.{one_list}
use Rattle.overlay_c.specs.StripLabels.{AreGoingOn, FailsGoing}
use Rattle.overlay_c.proofs.StripTelling.{none_fills, put_fills}
use Rattle.overlay_c.proofs.strip_going_on.overlay_strip_going_on.Goals as goal

pub returns-in-Ok : goal.returns-in-Ok
returns-in-Ok c = put_fills (AreGoingOn c.args.cuts.now c.args.strip c.args.crossing.now c.args.own.now) (FailsGoing c.args.cuts.now c.args.strip c.args.crossing.now c.args.own.now) (one_list c.args.room.now) (one_list c.put_list.new.room)
    (one_list c.in-Ok.list.items) c.put_list.result c.in-Ok.ensures (rw (← c.deref.ensures.value) c.put_list.ensures)

pub returns-in-Err : goal.returns-in-Err
returns-in-Err c = none_fills (AreGoingOn c.args.cuts.now c.args.strip c.args.crossing.now c.args.own.now) (FailsGoing c.args.cuts.now c.args.strip c.args.crossing.now c.args.own.now) (one_list c.args.room.now) (one_list c.args.room.now)
    c.in-Err.told c.in-Err.told refl c.in-Err.ensures (record { first = refl; second = refl; third = refl })
