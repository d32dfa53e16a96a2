use Rattle.std.proofs.Common.{◌≡◌, map, take}
use Rattle.rows.proofs.ends.all_ends.Given as goal

abbrev pub invariant-loop-row_set : goal.invariant-loop-row_set
invariant-loop-row_set g l = map (λ e. e.row_set) l.list.items ≡ take l.row_set-index l.row_sets
