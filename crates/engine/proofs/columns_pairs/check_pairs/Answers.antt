use Rattle.std.proofs.Common.{◌∙◌, ℕ, ap₂, subst, sym}
use Rattle.std.specs.Prelude.{min}
use Rattle.engine.specs.declared.columns_pairs.PairsRefused.TheVariants.{Unpaired}
use Rattle.engine.specs.ColumnsPairs.{ArePairsRefused, bad_a, bad_b, unpaired}
use Rattle.layers.specs.ColumnsRefusals.{AreBothAccepted}
use Rattle.engine.proofs.PairsRunning.{many_pairs, may_run}
use Rattle.engine.proofs.columns_pairs.check_pairs.Goals as goal

pub returns-in-Err : goal.returns-in-Err
returns-in-Err c = bad_a c.in-Err.ensures.answer

pub returns-in-Err-survey : goal.returns-in-Err-survey
returns-in-Err-survey c = bad_b c.in-Ok.ensures.answer.0 c.in-Err-survey.ensures.answer

pub returns-then-ours-theirs : goal.returns-then-ours-theirs
returns-then-ours-theirs c =
    let accepted : AreBothAccepted c.args.a.now c.args.b.now = record { first = c.in-Ok.ensures.answer.0; second = c.in-Ok-survey.ensures.answer.0 } in
    let ours = c.feature_count-ours.ensures in
    let theirs = c.feature_count-theirs.ensures in
    subst (λ (n : ℕ). ArePairsRefused c.args.limits.segments c.args.a.now c.args.b.now (Unpaired n)) (sym (c.min.ensures ∙ ap₂ (λ (m n : ℕ). min m n) ours theirs))
    (unpaired accepted (λ e. c.if-ours-theirs.true (ours ∙ e ∙ sym theirs)))

pub returns-in-Err-check_total : goal.returns-in-Err-check_total
returns-in-Err-check_total c =
    let accepted : AreBothAccepted c.args.a.now c.args.b.now = record { first = c.in-Ok.ensures.answer.0; second = c.in-Ok-survey.ensures.answer.0 } in
    let paired = sym c.feature_count-ours.ensures ∙ c.if-ours-theirs.false ∙ c.feature_count-theirs.ensures in
    let h = c.in-Err-check_total.ensures in
    many_pairs c.args.limits.segments c.args.a.now c.args.b.now c.in-Ok.outline c.in-Ok-survey.outline accepted paired c.in-Ok.ensures.answer.1 c.in-Ok-survey.ensures.answer.1 c.in-Err-check_total.fault.fault h.1 h.2

pub returns-in-Ok-check_total : goal.returns-in-Ok-check_total
returns-in-Ok-check_total c =
    let accepted : AreBothAccepted c.args.a.now c.args.b.now = record { first = c.in-Ok.ensures.answer.0; second = c.in-Ok-survey.ensures.answer.0 } in
    let paired = sym c.feature_count-ours.ensures ∙ c.if-ours-theirs.false ∙ c.feature_count-theirs.ensures in
    may_run c.args.limits.segments c.args.a.now c.args.b.now c.in-Ok.outline c.in-Ok-survey.outline accepted paired c.in-Ok.ensures.answer.1 c.in-Ok-survey.ensures.answer.1 c.in-Ok-check_total.ensures
