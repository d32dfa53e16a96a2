use Rattle.std.proofs.Common.{arith, length}
use Rattle.cover_sets.specs.Sets.{set_of}
use Rattle.rows.proofs.Counting.{few_ids, ids_fit}
use Rattle.rows.proofs.runs.ids_of.Goals as goal

pub overflow_add-ids : goal.overflow_add-ids
overflow_add-ids g c =
    let sets = c.args.sets.now in
    let all = c.args.row_sets.now in
    let fits = ids_fit (λ r. length (set_of sets r.set)) all c.loop-row_set.row_set-index _ c.loop-row_set.ids c.size-ids.result c.loop-row_set-test.true c.size-ids.ensures c.loop-row_set.invariant
    (few_ids sets c.requires.sets all c.requires.ascending c.requires.numbers) in
    omega (arith, fits)
