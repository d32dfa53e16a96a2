use Rattle.std.proofs.Common.{◌∙◌, subst, sym}
use Rattle.columns.specs.declared.layout.Columns.{Columns}
use Rattle.engine.specs.ColumnsPairs.{ArePairsMade, DeclinesPairs}
use Rattle.overlay_c.specs.declared.columns_answer.OverlayColumnsAnswer.{OverlayColumnsAnswer}
use Rattle.overlay_c.specs.Columns.{columns_in}
use Rattle.overlay_c.specs.Pairs.{FailsPairs, declined, no_call}
use Rattle.overlay_c.proofs.PairsTelling.{pairs_are}
use Rattle.overlay_c.proofs.Telling.{none_of}
use Rattle.overlay_c.proofs.pairs_call.pairs_result.Goals as goal

pub returns-in_default : goal.returns-in_default
returns-in_default c =
    subst (λ (w : OverlayColumnsAnswer). FailsPairs c.args.limits.segments c.args.call (columns_in c.args.a.now) (columns_in c.args.b.now) w) (sym c.no_such_call.ensures)
    (no_call (sym c.op_of.ensures ∙ none_of c.op_of.result c.in_default.not-Some))

pub returns-in-Ok : goal.returns-in-Ok
returns-in-Ok c =
    let limit = c.args.limits.segments in
    let op = c.in-Some.op in
    let made = c.in-Ok.made in
    let first = columns_in c.args.a.now in
    let second = columns_in c.args.b.now in
    pairs_are limit c.args.call first second op (sym c.op_of.ensures ∙ c.in-Some.is) made
    (subst (λ (x : Columns). ArePairsMade limit op x second made) c.columns_from.ensures
    (subst (λ (y : Columns). ArePairsMade limit op c.columns_from.result y made) c.columns_from-2.ensures c.in-Ok.ensures))

pub returns-in-Err : goal.returns-in-Err
returns-in-Err c =
    let limit = c.args.limits.segments in
    let refused = c.in-Err.refused in
    let first = columns_in c.args.a.now in
    let second = columns_in c.args.b.now in
    let declines = subst (λ (x : Columns). DeclinesPairs limit x second refused) c.columns_from.ensures
    (subst (λ (y : Columns). DeclinesPairs limit c.columns_from.result y refused) c.columns_from-2.ensures c.in-Err.ensures) in
    subst (λ (w : OverlayColumnsAnswer). FailsPairs limit c.args.call first second w) (sym c.answer_of_pairs.ensures)
    (declined c.in-Some.op (sym c.op_of.ensures ∙ c.in-Some.is) refused declines)
