use Rattle.std.proofs.Common.{◌≡◌, map, take}
use Rattle.rows.proofs.ends.row_sets_of.Given as goal

abbrev pub invariant-loop-one : goal.invariant-loop-one
invariant-loop-one g l = l.list.items ≡ map (λ e. e.row_set) (take l.one-index l.ends)
