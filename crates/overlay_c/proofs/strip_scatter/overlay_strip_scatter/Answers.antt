use Rattle.std.proofs.Common.{refl}
use Rattle.overlay_c.specs.Columns.{columns_in}
use Rattle.overlay_c.specs.Strips.{AreScattered, FailsScatter, two_lists}
use Rattle.overlay_c.proofs.StripTelling.{none_fills, put_fills}
use Rattle.overlay_c.proofs.strip_scatter.overlay_strip_scatter.Goals as goal

pub returns-in-Ok : goal.returns-in-Ok
returns-in-Ok c = put_fills (AreScattered c.args.cuts.now c.args.layer c.args.first (columns_in c.args.part.now)) (FailsScatter c.args.cuts.now c.args.layer (columns_in c.args.part.now))
    (two_lists c.args.lines.now c.args.strips.now) (two_lists c.put_two_lists.new.first_room c.put_two_lists.new.second_room) (two_lists c.in-Ok.all.lines.items c.in-Ok.all.strips.items) c.put_two_lists.result
    (rw (← c.columns_from.ensures) c.in-Ok.ensures) (rw (← c.deref.ensures.value, ← c.deref-in-Ok.ensures.value) c.put_two_lists.ensures)

pub returns-in-Err : goal.returns-in-Err
returns-in-Err c = none_fills (AreScattered c.args.cuts.now c.args.layer c.args.first (columns_in c.args.part.now)) (FailsScatter c.args.cuts.now c.args.layer (columns_in c.args.part.now))
    (two_lists c.args.lines.now c.args.strips.now) (two_lists c.args.lines.now c.args.strips.now) c.in-Err.told c.in-Err.told refl (rw (← c.columns_from.ensures) c.in-Err.ensures) (record { first = refl; second = refl; third = refl })
