use Rattle.std.proofs.Common.{◌≡◌, ◌+◌, drop, length, sum_by}
use Rattle.cover_sets.specs.Sets.{set_of}
use Rattle.rows.proofs.runs.ids_of.Given as goal

-- the features so far, with those of the rest
abbrev pub invariant-loop-row_set : goal.invariant-loop-row_set
invariant-loop-row_set g l = l.ids + sum_by (λ r. length (set_of l.sets r.set)) (drop l.row_set-index l.row_sets) ≡ sum_by (λ r. length (set_of l.sets r.set)) l.row_sets
