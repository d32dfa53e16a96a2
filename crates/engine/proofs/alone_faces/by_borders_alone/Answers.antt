use Rattle.std.proofs.Common.{◌≡◌, ◌∙◌, ◌≤◌, ℕ, List, ap, length, map, subst, sym}
use Rattle.std.proofs.lemmas.List.{length-map}
use Rattle.std.proofs.lemmas.Result.{IfOk-at_ok, err_from_is_err_and}
use Rattle.faces_text.specs.Text.{rows_text}
use Rattle.rows.specs.Made.{row_of}
use Rattle.rows.specs.declared.parts.Row.{Row}
use Rattle.layers.specs.declared.feature_segments.LayerSize.{LayerSize}
use Rattle.layers.specs.FeatureSegments.{all_features}
use Rattle.engine.specs.Rounds.{TellsTiles}
use Rattle.engine.proofs.FacesRunning.{memory_declines}
use Rattle.engine.proofs.FacesWritten.{all_below, below_most, bounded_declines, counts_fit, few_tiles, may, over_borders, sets_ascend, some_over, written}
use Rattle.engine.proofs.alone_faces.by_borders_alone.Goals as goal

pub bounded_rows_alone-requires-clause-borders : goal.bounded_rows_alone-requires-clause-borders
bounded_rows_alone-requires-clause-borders g c =
    let now = c.args.checked.now in
    over_borders now.limits now.plan (map (λ t. t.now) now.layers.now) now.segments now.grid now.are_checked c.args.borders c.requires

pub bounded_rows_alone-requires-clause-some : goal.bounded_rows_alone-requires-clause-some
bounded_rows_alone-requires-clause-some g c =
    let now = c.args.checked.now in
    some_over now.limits now.plan (map (λ t. t.now) now.layers.now) now.segments now.grid now.are_checked c.args.borders c.requires

pub bounded_rows_alone-requires-clause-inside : goal.bounded_rows_alone-requires-clause-inside
bounded_rows_alone-requires-clause-inside g c = c.requires.of.rounded.inside

pub bounded_rows_alone-requires-clause-ordered : goal.bounded_rows_alone-requires-clause-ordered
bounded_rows_alone-requires-clause-ordered g c = c.requires.of.rounded.ordered

pub bounded_rows_alone-requires-clause-below : goal.bounded_rows_alone-requires-clause-below
bounded_rows_alone-requires-clause-below g c =
    let now = c.args.checked.now in
    below_most now.limits now.plan (map (λ t. t.now) now.layers.now) now.segments now.grid now.are_checked c.args.borders c.requires

pub returns-in_err-rows-clause-answer : goal.returns-in_err-rows-clause-answer
returns-in_err-rows-clause-answer g c =
    let now = c.args.checked.now in
    let texts = map (λ t. t.now) now.layers.now in
    let below = all_below now.limits now.plan texts now.segments now.grid now.are_checked c.args.borders c.requires in
    let p = err_from_is_err_and c.from_residual.result c.from_residual.ensures.1 in
    let f = c.in_err-rows.field-0.0 in
    rw (p.1, p.2) (bounded_declines now.limits now.plan texts now.segments now.grid now.are_checked c.args.borders c.requires f
    (c.in_err-rows.ensures.answer (length (all_features c.requires.layers)) below))

pub rows_text_alone-requires-clause-counts : goal.rows_text_alone-requires-clause-counts
rows_text_alone-requires-clause-counts g c =
    let now = c.args.checked.now in
    rw c.deref.ensures.value (counts_fit now.limits now.plan (map (λ t. t.now) now.layers.now) now.segments now.grid now.are_checked c.args.borders c.requires)

pub rows_text_alone-requires-clause-ascending : goal.rows_text_alone-requires-clause-ascending
rows_text_alone-requires-clause-ascending g c =
    let now = c.args.checked.now in
    let texts = map (λ t. t.now) now.layers.now in
    let below = all_below now.limits now.plan texts now.segments now.grid now.are_checked c.args.borders c.requires in
    rw c.deref-2.ensures.value (sets_ascend now.limits now.plan texts now.segments now.grid now.are_checked c.args.borders c.requires c.in_ok-rows.field-0.rows.items
    (c.in_ok-rows.ensures.answer (length (all_features c.requires.layers)) below).rows)

pub rows_text_alone-requires-clause-areas : goal.rows_text_alone-requires-clause-areas
rows_text_alone-requires-clause-areas g c = rw c.deref-2.ensures.value c.in_ok-rows.ensures.areas

pub returns-in_err-text-clause-answer : goal.returns-in_err-text-clause-answer
returns-in_err-text-clause-answer g c =
    let now = c.args.checked.now in
    let texts = map (λ t. t.now) now.layers.now in
    let p = err_from_is_err_and c.from_residual-in_err-text.result c.from_residual-in_err-text.ensures.1 in
    let f = c.in_err-text.field-0.0 in
    rw (p.1, p.2) (memory_declines now.limits now.plan texts f.at f.refusal (may now.limits now.plan texts now.segments now.grid now.are_checked c.args.borders c.requires) c.in_err-text.ensures)

pub faces_report_of-requires : goal.faces_report_of-requires
faces_report_of-requires g c =
    let now = c.args.checked.now in
    few_tiles now.limits now.plan (map (λ t. t.now) now.layers.now) now.segments now.grid now.are_checked c.args.borders c.requires

pub returns-in_err-report-clause-answer : goal.returns-in_err-report-clause-answer
returns-in_err-report-clause-answer g c =
    let now = c.args.checked.now in
    let texts = map (λ t. t.now) now.layers.now in
    let p = err_from_is_err_and c.from_residual-in_err-report.result c.from_residual-in_err-report.ensures.1 in
    let f = c.in_err-report.field-0.0 in
    rw (p.1, p.2) (memory_declines now.limits now.plan texts f.at f.refusal (may now.limits now.plan texts now.segments now.grid now.are_checked c.args.borders c.requires) c.in_err-report.ensures)

pub returns-clause-answer : goal.returns-clause-answer
returns-clause-answer g c =
    let now = c.args.checked.now in
    let texts = map (λ t. t.now) now.layers.now in
    let borders = c.args.borders in
    let below = all_below now.limits now.plan texts now.segments now.grid now.are_checked borders c.requires in
    let bounded = c.in_ok-rows.ensures.answer (length (all_features c.requires.layers)) below in
    let rows = c.in_ok-rows.field-0.rows.items in
    let told = c.faces_report_of.ensures in
    let is_report = c.in_ok-report.ensures in
    let numbers = IfOk-at_ok (λ r. (r.rows ≡ length c.deref-3.result.now) × (r.ids ≡ c.in_ok-rows.field-0.ids)) is_report told.rows in
    let is_text = IfOk-at_ok (λ t. t.items ≡ rows_text (map (λ (z : LayerSize). z.features) c.deref.result.now) (map row_of c.deref-2.result.now)) c.in_ok-text.ensures c.rows_text_alone.ensures
    ∙ ap (λ (zs : List LayerSize). rows_text (map (λ (z : LayerSize). z.features) zs) (map row_of c.deref-2.result.now)) c.deref.ensures.value
    ∙ ap (λ (rs : List (Row g.row.A.Denot)). rows_text (map (λ (z : LayerSize). z.features) borders.sizes.items) (map row_of rs)) c.deref-2.ensures.value in
    written now.limits now.plan texts now.segments now.grid now.are_checked borders c.requires (map row_of rows) c.in_ok-text.text.items c.in_ok-report.report bounded.rows is_text
    (ap (λ v. v.items) (IfOk-at_ok (λ r. r.layers ≡ borders.sizes) is_report told.layers))
    (IfOk-at_ok (λ r. r.edges ≡ length borders.rounded.borders.items) is_report told.edges)
    (numbers.0 ∙ ap (λ (rs : List (Row g.row.A.Denot)). length rs) c.deref-3.ensures.value ∙ sym (length-map rows row_of))
    (numbers.1 ∙ bounded.ids)
    (subst (λ (n : ℕ). n ≤ now.limits.ids) (sym numbers.1) bounded.few)
    (IfOk-at_ok (λ r. TellsTiles borders.rounded.tiles.items r.hot r.records r.tiles.items) is_report told.tiles)
    (IfOk-at_ok (λ r. r.remade ≡ borders.rounded.remade) is_report told.remade)

pub returns-clause-same_remade : goal.returns-clause-same_remade
returns-clause-same_remade g c = IfOk-at_ok (λ r. r.remade ≡ c.args.borders.rounded.remade) c.in_ok-report.ensures c.faces_report_of.ensures.remade
