use Rattle.std.proofs.Common.{List, get_or, rules, subst}
use Rattle.std.specs.Prelude.{IsTrue}
use Rattle.rows.specs.declared.edges.RowEdge.{RowEdge}
use Rattle.rows.specs.declared.runs.RowSet.{RowSet}
use Rattle.rows.specs.Made.{IsBound}
use Rattle.rows_tests.proofs.Readying.{all_ready, edges_ascend, one_more_bound}
use Rattle.rows_tests.proofs.ready.is_ready.Goals as goal

pub is_bound-requires-clause-ascending : goal.is_bound-requires-clause-ascending
is_bound-requires-clause-ascending g c =
    edges_ascend c.args.row_edges.now.edges.items c.deref.result.now c.args.row_edges.now.sets.items c.deref-row_sets.result.now c.deref.ensures.value c.deref-row_sets.ensures.value
    c.requires.ascending c.requires.row_sets c.loop-row_set.row_set-index _ c.loop-row_set-test.true

pub loop-row_set-preserved : goal.loop-row_set-preserved
loop-row_set-preserved g c =
    let yes : IsTrue c.in_ok-is_bound.field-0 = search rules in
    let d : RowSet = record { set = 0; from = 0; to = 0 } in
    one_more_bound (IsBound c.args.sets.now c.args.row_edges.now.edges.items) c.deref-row_sets.result.now c.loop-row_set.row_set-index d c.loop-row_set-test.true c.loop-row_set.invariant
    (subst (λ (es : List RowEdge). IsBound c.args.sets.now es (get_or c.deref-row_sets.result.now c.loop-row_set.row_set-index d)) c.deref.ensures.value (c.in_ok-is_bound.ensures yes c.args.sets.now c.requires.numbers))

pub returns : goal.returns
returns g c = λ yes. all_ready c.args.sets.now c.args.row_edges.now.edges.items c.args.row_edges.now.sets.items c.deref-row_sets.result.now c.loop-row_set.row_set-index c.deref-row_sets.ensures.value c.loop-row_set-test.false
    c.requires.sets c.requires.row_sets c.loop-row_set.invariant
