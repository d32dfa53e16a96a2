use Rattle.std.proofs.Common.{◌≡◌, ◌∙◌, length}
use Rattle.std.proofs.lemmas.Result.{IfOk-at_ok, IfOk-weaker, err_from_is_err_and}
use Rattle.layers.specs.ColumnLayers.{features_in}
use Rattle.engine.specs.Faces.{AreBordersOf}
use Rattle.layers.specs.FeatureSegments.{all_features}
use Rattle.engine.proofs.BordersOf.{ascend_in_rows, below_all, below_limit, borders_hold, sizes_fit, some_hold}
use Rattle.engine.proofs.FaceColumns.{ends, memory_declines, rows_decline, tiles_are_few}
use Rattle.engine.proofs.Remade.{made_known}
use Rattle.engine.proofs.faces_columns.columns_by_segments.Goals as goal

pub returns-in_err-borders-clause-answer : goal.returns-in_err-borders-clause-answer
returns-in_err-borders-clause-answer g c =
    let p = err_from_is_err_and c.from_residual.result c.from_residual.ensures.1 in
    rw (p.1, p.2) (memory_declines c.args.layers.now c.args.checked.now c.requires c.in_err-borders.field-0.0 c.in_err-borders.ensures)

pub bounded_rows_alone-requires-clause-borders : goal.bounded_rows_alone-requires-clause-borders
bounded_rows_alone-requires-clause-borders g c = borders_hold (features_in c.args.layers.now) c.args.checked.now.grid c.in_ok-borders.borders
    (IfOk-at_ok (λ b. AreBordersOf (features_in c.args.layers.now) c.args.checked.now.grid b) c.in_ok-borders.ensures c.column_borders.ensures.borders)

pub bounded_rows_alone-requires-clause-some : goal.bounded_rows_alone-requires-clause-some
bounded_rows_alone-requires-clause-some g c = some_hold (features_in c.args.layers.now) c.args.checked.now.grid c.in_ok-borders.borders
    (IfOk-at_ok (λ b. AreBordersOf (features_in c.args.layers.now) c.args.checked.now.grid b) c.in_ok-borders.ensures c.column_borders.ensures.borders)

pub bounded_rows_alone-requires-clause-inside : goal.bounded_rows_alone-requires-clause-inside
bounded_rows_alone-requires-clause-inside g c = (IfOk-at_ok (λ b. AreBordersOf (features_in c.args.layers.now) c.args.checked.now.grid b) c.in_ok-borders.ensures c.column_borders.ensures.borders).rounded.inside

pub bounded_rows_alone-requires-clause-ordered : goal.bounded_rows_alone-requires-clause-ordered
bounded_rows_alone-requires-clause-ordered g c = (IfOk-at_ok (λ b. AreBordersOf (features_in c.args.layers.now) c.args.checked.now.grid b) c.in_ok-borders.ensures c.column_borders.ensures.borders).rounded.ordered

pub bounded_rows_alone-requires-clause-below : goal.bounded_rows_alone-requires-clause-below
bounded_rows_alone-requires-clause-below g c = below_limit (features_in c.args.layers.now) c.args.checked.now.grid c.in_ok-borders.borders
    (IfOk-at_ok (λ b. AreBordersOf (features_in c.args.layers.now) c.args.checked.now.grid b) c.in_ok-borders.ensures c.column_borders.ensures.borders)

pub returns-in_err-rows-clause-answer : goal.returns-in_err-rows-clause-answer
returns-in_err-rows-clause-answer g c =
    let layers = features_in c.args.layers.now in
    let borders = c.in_ok-borders.borders in
    let of = IfOk-at_ok (λ b. AreBordersOf (features_in c.args.layers.now) c.args.checked.now.grid b) c.in_ok-borders.ensures c.column_borders.ensures.borders in
    let p = err_from_is_err_and c.from_residual-in_err-rows.result c.from_residual-in_err-rows.ensures.1 in
    rw (p.1, p.2) (rows_decline c.args.layers.now c.args.checked.now c.requires borders of c.in_err-rows.field-0.0
    (c.in_err-rows.ensures.answer (length (all_features layers)) (below_all layers c.args.checked.now.grid borders of)))

pub columns_of_borders-requires-clause-counts : goal.columns_of_borders-requires-clause-counts
columns_of_borders-requires-clause-counts g c = sizes_fit (features_in c.args.layers.now) c.args.checked.now.grid c.in_ok-borders.borders
    (IfOk-at_ok (λ b. AreBordersOf (features_in c.args.layers.now) c.args.checked.now.grid b) c.in_ok-borders.ensures c.column_borders.ensures.borders)

pub columns_of_borders-requires-clause-ascending : goal.columns_of_borders-requires-clause-ascending
columns_of_borders-requires-clause-ascending g c =
    let layers = features_in c.args.layers.now in
    let borders = c.in_ok-borders.borders in
    let of = IfOk-at_ok (λ b. AreBordersOf (features_in c.args.layers.now) c.args.checked.now.grid b) c.in_ok-borders.ensures c.column_borders.ensures.borders in
    ascend_in_rows layers c.args.checked.now.grid borders of c.in_ok-rows.rows.rows.items
    (c.in_ok-rows.ensures.answer (length (all_features layers)) (below_all layers c.args.checked.now.grid borders of)).rows

pub columns_of_borders-requires-clause-tiles : goal.columns_of_borders-requires-clause-tiles
columns_of_borders-requires-clause-tiles g c = tiles_are_few c.args.layers.now c.args.checked.now c.requires c.in_ok-borders.borders
    (IfOk-at_ok (λ b. AreBordersOf (features_in c.args.layers.now) c.args.checked.now.grid b) c.in_ok-borders.ensures c.column_borders.ensures.borders)

pub returns-clause-answer : goal.returns-clause-answer
returns-clause-answer g c =
    let layers = features_in c.args.layers.now in
    let borders = c.in_ok-borders.borders in
    let of = IfOk-at_ok (λ b. AreBordersOf (features_in c.args.layers.now) c.args.checked.now.grid b) c.in_ok-borders.ensures c.column_borders.ensures.borders in
    ends c.args.layers.now c.args.checked.now c.requires borders of c.in_ok-rows.rows c.columns_of_borders.result c.or_want-2.result
    (c.in_ok-rows.ensures.answer (length (all_features layers)) (below_all layers c.args.checked.now.grid borders of)) c.columns_of_borders.ensures c.or_want-2.ensures

pub returns-clause-none_remade : goal.returns-clause-none_remade
returns-clause-none_remade g c =
    made_known (λ m. m.report.remade ≡ 0) _ c.columns_of_borders.result c.or_want-2.result
    (IfOk-weaker c.columns_of_borders.result _ (λ m. m.report.remade ≡ 0) (λ m h. h.remade ∙ IfOk-at_ok (λ b. b.rounded.remade ≡ 0) c.in_ok-borders.ensures c.column_borders.ensures.none_remade) c.columns_of_borders.ensures) c.or_want-2.ensures
