use Rattle.std.specs.List.{AllAdjacentBelow}
use Rattle.polygon_order.proofs.ShellOrder.{IsShellBefore}
use Rattle.polygon_order.proofs.shells.shell_twice.Given as goal

abbrev pub invariant-loop-place : goal.invariant-loop-place
invariant-loop-place l = AllAdjacentBelow (IsShellBefore l.columns) l.shells l.place
