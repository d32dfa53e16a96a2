use Rattle.rows.proofs.Grouping.{all_grouped, not_grouped, one_set_more}
use Rattle.rows.proofs.runs.row_sets.Goals as goal

pub loop-from-init : goal.loop-from-init
loop-from-init g c = rw c.new-list.ensures.items (not_grouped c.args.edges.now)

pub loop-from-preserved : goal.loop-from-preserved
loop-from-preserved g c =
    let run = c.end_of_run-to.ensures in
    rw c.in_ok-push.ensures.items (one_set_more c.args.edges.now c.requires c.loop-from.from c.end_of_run-to.result c.loop-from.list.items _ c.loop-from.invariant run.after run.within run.run run.past)

pub returns : goal.returns
returns g c = all_grouped c.args.edges.now c.loop-from.from c.loop-from.list.items c.loop-from-test.false c.loop-from.invariant
