use Rattle.std.proofs.Math.IntN.{pos}
use Rattle.label_sweep.proofs.Ends.{some_are}
use Rattle.overlay_c.specs.declared.strip_items.OverlayCounted.{OverlayCounted}
use Rattle.overlay_c.proofs.StripEdges.{left_or_not}
use Rattle.overlay_c.proofs.strip_labels_checks.begins_left.Goals as goal

pub returns-else-is_empty : goal.returns-else-is_empty
returns-else-is_empty c =
    let none : OverlayCounted = record { px = pos 0; py = pos 0; qx = pos 0; qy = pos 0; in_a = 0; in_b = 0 } in
    left_or_not c.args.own.now c.requires c.args.item none (some_are _ c.if-is_empty.ensures) c.is_left.result c.is_left.ensures
