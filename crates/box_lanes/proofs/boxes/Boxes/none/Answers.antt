use Rattle.std.proofs.Common.{arith}
use Rattle.box_lanes.proofs.BoxLaws.{column_zeros, ordered_none}
use Rattle.box_lanes.proofs.HullLaws.{held_none}
use Rattle.box_lanes.proofs.boxes.Boxes.none.Goals as goal

pub invariant_of-result : goal.invariant_of-result
invariant_of-result c = (omega arith, (column_zeros 32, (column_zeros 32, (column_zeros 32, (column_zeros 32, (ordered_none _ _, (ordered_none _ _, (held_none _ _ _ _ _, tt))))))))
