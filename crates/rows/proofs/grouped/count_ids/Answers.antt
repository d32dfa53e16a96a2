use Rattle.std.proofs.Common.{◌≡◌, ◌∙◌, List, length, subst, sum_by}
use Rattle.cover_sets.specs.Sets.{set_of}
use Rattle.rows.specs.declared.runs.RowSet.{RowSet}
use Rattle.rows.proofs.Making.{ids_are}
use Rattle.rows.proofs.grouped.count_ids.Goals as goal

pub returns-clause-rows : goal.returns-clause-rows
returns-clause-rows g c count borders rows e r =
    subst (λ (rs : List RowSet). c.ids_of.result ≡ sum_by (λ q. length (set_of c.args.sets.now q.set)) rs) c.deref.ensures.value c.ids_of.ensures
    ∙ ids_are count borders c.args.sets.now c.args.row_edges.now.edges.items c.args.row_edges.now.sets.items c.requires.are_sets e c.requires.are_row_sets rows r
