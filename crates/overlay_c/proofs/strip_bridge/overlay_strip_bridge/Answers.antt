use Rattle.std.proofs.Common.{refl}
use Rattle.overlay_c.specs.Strips.{AreBridgedLists, FailsBridge, two_lists}
use Rattle.overlay_c.proofs.StripTelling.{none_fills, put_fills}
use Rattle.overlay_c.proofs.strip_bridge.overlay_strip_bridge.Goals as goal

pub returns-in-Ok : goal.returns-in-Ok
returns-in-Ok c = put_fills (AreBridgedLists c.args.left.now c.args.right.now c.args.carried.now) (FailsBridge c.args.left.now c.args.right.now c.args.carried.now) (two_lists c.args.across.now c.args.next.now)
    (two_lists c.put_two_lists.new.first_room c.put_two_lists.new.second_room) (two_lists c.in-Ok.made.across.items c.in-Ok.made.next.items) c.put_two_lists.result c.in-Ok.ensures
    (rw (← c.deref.ensures.value, ← c.deref-in-Ok.ensures.value) c.put_two_lists.ensures)

pub returns-in-Err : goal.returns-in-Err
returns-in-Err c = none_fills (AreBridgedLists c.args.left.now c.args.right.now c.args.carried.now) (FailsBridge c.args.left.now c.args.right.now c.args.carried.now) (two_lists c.args.across.now c.args.next.now)
    (two_lists c.args.across.now c.args.next.now) c.in-Err.told c.in-Err.told refl c.in-Err.ensures (record { first = refl; second = refl; third = refl })
