use Rattle.std.proofs.Common.{◌≡◌, ◌-◌, ◌≤◌, length, map}
use Rattle.std.specs.List.{All, range_with_len}
use Rattle.polygon_order.specs.Shells.{IsShellOf}
use Rattle.polygon_order.proofs.shells.shells_in_order.Given as goal

abbrev pub invariant-loop-number : goal.invariant-loop-number
invariant-loop-number g l = record {
  are : All (IsShellOf l.columns) l.found.items;
  numbers : map (λ s. s.number) l.found.items ≡ range_with_len 0 (l.number - 1);
  within : l.number - 1 ≤ length l.columns.polygons.now - 1;
}
