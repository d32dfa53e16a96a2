use Rattle.std.proofs.Common.{refl}
use Rattle.overlay_c.specs.Strips.{AreRoundedLists, FailsRound, three_lists}
use Rattle.overlay_c.proofs.StripTelling.{none_fills, put_fills}
use Rattle.overlay_c.proofs.strip_round.overlay_strip_round.Goals as goal

pub returns-in-Ok : goal.returns-in-Ok
returns-in-Ok c = put_fills (AreRoundedLists c.args.cuts.now c.args.strip c.args.lines.now) (FailsRound c.args.cuts.now c.args.strip c.args.lines.now) (three_lists c.args.inner.now c.args.left.now c.args.right.now)
    (three_lists c.put_three_lists.new.first_room c.put_three_lists.new.second_room c.put_three_lists.new.third_room) (three_lists c.in-Ok.made.inner.items c.in-Ok.made.left.items c.in-Ok.made.right.items)
    c.put_three_lists.result c.in-Ok.ensures (rw (← c.deref.ensures.value, ← c.deref-in-Ok.ensures.value, ← c.deref-in-Ok-2.ensures.value) c.put_three_lists.ensures)

pub returns-in-Err : goal.returns-in-Err
returns-in-Err c = none_fills (AreRoundedLists c.args.cuts.now c.args.strip c.args.lines.now) (FailsRound c.args.cuts.now c.args.strip c.args.lines.now) (three_lists c.args.inner.now c.args.left.now c.args.right.now)
    (three_lists c.args.inner.now c.args.left.now c.args.right.now) c.in-Err.told c.in-Err.told refl c.in-Err.ensures (record { first = refl; second = refl; third = refl })
