use Rattle.std.proofs.Common.{ℕ, List, ◌++◌, map, take}
use Rattle.rows.specs.Made.{row_of}
use Rattle.rows.specs.RowColumns.{HaveLists, layer_lists}
use Rattle.rows.proofs.number_lists.NumberLists.push_layer.Given as goal

abbrev pub invariant-loop-row : goal.invariant-loop-row
invariant-loop-row g l = (lists : List (List ℕ)) → HaveLists lists l.fn.self → HaveLists (lists ++ layer_lists l.first l.past (map row_of (take l.row-index l.rows))) l.self
