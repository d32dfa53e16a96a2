use Rattle.std.proofs.Common.{◌∙◌, subst, sym}
use Rattle.columns.specs.declared.layout.Columns.{Columns}
use Rattle.engine.specs.ColumnsRuns.{DeclinesColumns}
use Rattle.engine.specs.Runs.{alone}
use Rattle.overlay_c.specs.declared.columns_answer.OverlayColumnsAnswer.{OverlayColumnsAnswer}
use Rattle.overlay_c.specs.Columns.{FailsColumns, columns_in, declined, no_call}
use Rattle.overlay_c.proofs.Telling.{none_of}
use Rattle.overlay_c.proofs.columns_layer.columns_result.Goals as goal

pub returns-in_default : goal.returns-in_default
returns-in_default g c =
    subst (λ (w : OverlayColumnsAnswer). FailsColumns c.args.limits.segments c.args.call c.args.side (columns_in c.args.a.now) (columns_in c.args.b.now) w) (sym c.no_such_call.ensures)
    (no_call (sym c.op_of.ensures ∙ none_of c.op_of.result c.in_default.not-Some))

pub returns : goal.returns
returns g c =
    let limit = c.args.limits.segments in
    let refused = c.in-Err.refused in
    let first = columns_in c.args.a.now in
    let second = columns_in c.args.b.now in
    let declines = subst (λ (x : Columns). DeclinesColumns limit (alone c.args.side) x second refused) c.columns_from-first.ensures
    (subst (λ (y : Columns). DeclinesColumns limit (alone c.args.side) c.columns_from-first.result y refused) c.columns_from-second.ensures c.in-Err.ensures.answer) in
    subst (λ (w : OverlayColumnsAnswer). FailsColumns limit c.args.call c.args.side first second w) (sym c.answer_of_columns.ensures)
    (declined c.in-Some.op (sym c.op_of.ensures ∙ c.in-Some.is) refused declines)
