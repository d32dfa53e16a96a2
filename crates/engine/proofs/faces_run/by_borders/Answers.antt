use Rattle.std.proofs.Common.{◌≡◌, length, map}
use Rattle.std.specs.Prelude.{All}
use Rattle.std.proofs.lemmas.Result.{IfOk-at_ok, err_from_is_err_and}
use Rattle.cover_law.specs.Areas.{row_area}
use Rattle.cover_law.specs.Cover.{bordered}
use Rattle.cover_law.specs.Rows.{AreRows}
use Rattle.rows.specs.Made.{row_of}
use Rattle.engine.specs.FaceBorders.{borders_in}
use Rattle.engine.specs.FaceRows.{AreFaceSets}
use Rattle.layers.specs.FeatureSegments.{all_features}
use Rattle.engine.proofs.FacesRunning.{memory_declines}
use Rattle.engine.proofs.FacesWritten.{below_most, counts_fit, edges_of, few_tiles, ids_refused, made_written, may, over_borders, sets_ascend, some_over}
use Rattle.engine.proofs.faces_run.by_borders.Goals as goal

pub face_sets-requires-clause-borders : goal.face_sets-requires-clause-borders
face_sets-requires-clause-borders g c =
    let now = c.args.checked.now in
    λ κs l. rw (c.deref.ensures.value, c.deref-2.ensures.value) (over_borders now.limits now.plan (map (λ t. t.now) now.layers.now) now.segments now.grid now.are_checked c.args.borders c.requires)

pub face_sets-requires-clause-some : goal.face_sets-requires-clause-some
face_sets-requires-clause-some g c =
    let now = c.args.checked.now in
    λ κs l. rw (c.deref.ensures.value, c.deref-2.ensures.value) (some_over now.limits now.plan (map (λ t. t.now) now.layers.now) now.segments now.grid now.are_checked c.args.borders c.requires)

pub face_sets-requires-clause-inside : goal.face_sets-requires-clause-inside
face_sets-requires-clause-inside g c = λ κs l. rw (c.deref.ensures.value, c.deref-2.ensures.value) c.requires.of.rounded.inside

pub face_sets-requires-clause-ordered : goal.face_sets-requires-clause-ordered
face_sets-requires-clause-ordered g c = λ κs l. rw (c.deref.ensures.value, c.deref-2.ensures.value) c.requires.of.rounded.ordered

pub face_sets-requires-clause-below : goal.face_sets-requires-clause-below
face_sets-requires-clause-below g c =
    let now = c.args.checked.now in
    λ κs l. rw c.deref-2.ensures.value (below_most now.limits now.plan (map (λ t. t.now) now.layers.now) now.segments now.grid now.are_checked c.args.borders c.requires)

pub returns-in_err-sets : goal.returns-in_err-sets
returns-in_err-sets g c =
    let now = c.args.checked.now in
    let texts = map (λ t. t.now) now.layers.now in
    let p = err_from_is_err_and c.from_residual.result c.from_residual.ensures.1 in
    let f = c.in_err-sets.field-0.0 in
    rw (p.1, p.2) (memory_declines now.limits now.plan texts f.at f.refusal (may now.limits now.plan texts now.segments now.grid now.are_checked c.args.borders c.requires) c.in_err-sets.ensures)

pub ids-requires : goal.ids-requires
ids-requires g c =
    (IfOk-at_ok (λ s. AreFaceSets c.deref-2.result.now (map (bordered c.deref-2.result.now) c.deref.result.now) s.sets s.edges.edges.items s.edges.sets.items) c.in_ok-sets.ensures c.face_sets.ensures).ready

pub returns-in_err-ids : goal.returns-in_err-ids
returns-in_err-ids g c =
    let now = c.args.checked.now in
    let texts = map (λ t. t.now) now.layers.now in
    let rounded = c.args.borders.rounded in
    let p = err_from_is_err_and c.from_residual-in_err-ids.result c.from_residual-in_err-ids.ensures.1 in
    let f = c.in_err-ids.field-0.0 in
    let count = length (all_features c.requires.layers) in
    let sets = c.in_ok-sets.sets in
    let edges = edges_of now.limits now.plan texts now.segments now.grid now.are_checked c.args.borders c.requires sets.sets sets.edges.edges.items sets.edges.sets.items c.deref-2.result.now c.deref.result.now c.deref-2.ensures.value c.deref.ensures.value
    (IfOk-at_ok (λ s. AreFaceSets c.deref-2.result.now (map (bordered c.deref-2.result.now) c.deref.result.now) s.sets s.edges.edges.items s.edges.sets.items) c.in_ok-sets.ensures c.face_sets.ensures) in
    rw (p.1, p.2) (ids_refused now.limits now.plan texts now.segments now.grid now.are_checked c.args.borders c.requires f c.ids.result (c.ids.ensures.number count (borders_in rounded) edges) c.in_err-ids.ensures)

pub rows-requires-after_bounds : goal.rows-requires-after_bounds
rows-requires-after_bounds g c κs within =
    (IfOk-at_ok (λ s. AreFaceSets c.deref-2.result.now (map (bordered c.deref-2.result.now) c.deref.result.now) s.sets s.edges.edges.items s.edges.sets.items) c.in_ok-sets.ensures c.face_sets.ensures).ready

pub returns-in_err-rows : goal.returns-in_err-rows
returns-in_err-rows g c =
    let now = c.args.checked.now in
    let texts = map (λ t. t.now) now.layers.now in
    let p = err_from_is_err_and c.from_residual-in_err-rows.result c.from_residual-in_err-rows.ensures.1 in
    let f = c.in_err-rows.field-0.0 in
    rw (p.1, p.2) (memory_declines now.limits now.plan texts f.at f.refusal (may now.limits now.plan texts now.segments now.grid now.are_checked c.args.borders c.requires) c.in_err-rows.ensures)

pub rows_text_by_workers-requires-clause-counts : goal.rows_text_by_workers-requires-clause-counts
rows_text_by_workers-requires-clause-counts g c =
    let now = c.args.checked.now in
    λ κs l. rw c.deref-3.ensures.value (counts_fit now.limits now.plan (map (λ t. t.now) now.layers.now) now.segments now.grid now.are_checked c.args.borders c.requires)

pub rows_text_by_workers-requires-clause-ascending : goal.rows_text_by_workers-requires-clause-ascending
rows_text_by_workers-requires-clause-ascending g c =
    let now = c.args.checked.now in
    let texts = map (λ t. t.now) now.layers.now in
    let rounded = c.args.borders.rounded in
    let count = length (all_features c.requires.layers) in
    let sets = c.in_ok-sets.sets in
    let edges = edges_of now.limits now.plan texts now.segments now.grid now.are_checked c.args.borders c.requires sets.sets sets.edges.edges.items sets.edges.sets.items c.deref-2.result.now c.deref.result.now c.deref-2.ensures.value c.deref.ensures.value
    (IfOk-at_ok (λ s. AreFaceSets c.deref-2.result.now (map (bordered c.deref-2.result.now) c.deref.result.now) s.sets s.edges.edges.items s.edges.sets.items) c.in_ok-sets.ensures c.face_sets.ensures) in
    let borders = over_borders now.limits now.plan texts now.segments now.grid now.are_checked c.args.borders c.requires in
    let rows = IfOk-at_ok (λ rs. AreRows count (borders_in rounded) (map row_of rs.items)) c.in_ok-rows.ensures (c.rows.ensures.rows count (borders_in rounded) borders edges) in
    λ κs l. rw c.deref-4.ensures.value (sets_ascend now.limits now.plan texts now.segments now.grid now.are_checked c.args.borders c.requires c.in_ok-rows.rows.items rows)

pub rows_text_by_workers-requires-clause-areas : goal.rows_text_by_workers-requires-clause-areas
rows_text_by_workers-requires-clause-areas g c =
    λ κs l. rw c.deref-4.ensures.value (IfOk-at_ok (λ rs. All (λ r. r.twice_area ≡ row_area (row_of r)) rs.items) c.in_ok-rows.ensures c.rows.ensures.areas)

pub returns-in_err-text : goal.returns-in_err-text
returns-in_err-text g c =
    let now = c.args.checked.now in
    let texts = map (λ t. t.now) now.layers.now in
    let p = err_from_is_err_and c.from_residual-in_err-text.result c.from_residual-in_err-text.ensures.1 in
    let f = c.in_err-text.field-0.0 in
    rw (p.1, p.2) (memory_declines now.limits now.plan texts f.at f.refusal (may now.limits now.plan texts now.segments now.grid now.are_checked c.args.borders c.requires) c.in_err-text.ensures)

pub faces_report_of-requires : goal.faces_report_of-requires
faces_report_of-requires g c =
    let now = c.args.checked.now in
    few_tiles now.limits now.plan (map (λ t. t.now) now.layers.now) now.segments now.grid now.are_checked c.args.borders c.requires

pub returns-in_err-report : goal.returns-in_err-report
returns-in_err-report g c =
    let now = c.args.checked.now in
    let texts = map (λ t. t.now) now.layers.now in
    let p = err_from_is_err_and c.from_residual-in_err-report.result c.from_residual-in_err-report.ensures.1 in
    let f = c.in_err-report.field-0.0 in
    rw (p.1, p.2) (memory_declines now.limits now.plan texts f.at f.refusal (may now.limits now.plan texts now.segments now.grid now.are_checked c.args.borders c.requires) c.in_err-report.ensures)

pub returns : goal.returns
returns g c =
    let now = c.args.checked.now in
    let told = c.faces_report_of.ensures in
    made_written now.limits now.plan (map (λ t. t.now) now.layers.now) now.segments now.grid now.are_checked c.args.borders c.requires
    c.in_ok-sets.sets.sets c.in_ok-sets.sets.edges.edges.items c.in_ok-sets.sets.edges.sets.items c.deref-2.result.now c.deref.result.now c.deref-3.result.now c.deref-4.result.now c.deref-5.result.now c.ids.result c.in_ok-ids.ids
    c.rows.result c.in_ok-rows.rows c.rows_text_by_workers.result c.in_ok-text.text c.faces_report_of.result c.in_ok-report.report
    c.deref-2.ensures.value c.deref.ensures.value c.deref-3.ensures.value c.deref-4.ensures.value c.deref-5.ensures.value
    (IfOk-at_ok (λ s. AreFaceSets c.deref-2.result.now (map (bordered c.deref-2.result.now) c.deref.result.now) s.sets s.edges.edges.items s.edges.sets.items) c.in_ok-sets.ensures c.face_sets.ensures)
    c.ids.ensures.rows c.in_ok-ids.ensures c.in_ok-rows.ensures c.rows.ensures.rows c.in_ok-text.ensures c.rows_text_by_workers.ensures c.in_ok-report.ensures told.layers told.edges told.rows told.tiles told.remade
