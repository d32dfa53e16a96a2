use Rattle.std.proofs.Common.{map, take}
use Rattle.polygon_order.specs.Order.{AreColumnsAsWritten}
use Rattle.polygon_order.specs.Shells.{polygons_at}
use Rattle.polygon_order.proofs.ordering.copied.Given as goal

abbrev pub invariant-loop-shell : goal.invariant-loop-shell
invariant-loop-shell g l = AreColumnsAsWritten (polygons_at l.columns (map (λ s. s.number) (take l.shell-index l.shells))) l.made
