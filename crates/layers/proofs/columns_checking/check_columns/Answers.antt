use Rattle.std.proofs.Common.{rules}
use Rattle.layers.specs.Refusals.{IsPlan}
use Rattle.layers.specs.ColumnsRefusals.{bad_a, bad_b}
use Rattle.layers.proofs.RefusedColumns.{many_refuse, plan_refuses}
use Rattle.layers.proofs.columns_checking.check_columns.Goals as goal

pub returns-in-Some-clause-answer : goal.returns-in-Some-clause-answer
returns-in-Some-clause-answer c = plan_refuses c.args.limits.segments c.args.plan c.args.a.now c.args.b.now c.in-Some.fault c.in-Some.ensures

pub returns-in-Err-clause-answer : goal.returns-in-Err-clause-answer
returns-in-Err-clause-answer c =
    let planned : IsPlan c.args.plan = search rules in
    bad_a planned c.in-Err.ensures.answer

pub returns-in-Err-survey-clause-answer : goal.returns-in-Err-survey-clause-answer
returns-in-Err-survey-clause-answer c =
    let planned : IsPlan c.args.plan = search rules in
    bad_b planned c.in-Ok.ensures.answer.0 c.in-Err-survey.ensures.answer

pub returns-in-Err-checked_grid-clause-answer : goal.returns-in-Err-checked_grid-clause-answer
returns-in-Err-checked_grid-clause-answer c =
    let planned : IsPlan c.args.plan = search rules in
    let first = c.in-Ok.ensures.answer in
    let second = c.in-Ok-survey.ensures.answer in
    many_refuse c.args.limits.segments c.args.plan c.args.a.now c.args.b.now c.in-Ok.outline c.in-Ok-survey.outline planned (record { first = first.0; second = second.0 }) first.1 second.1
    c.in-Err-checked_grid.fault c.in-Err-checked_grid.ensures
