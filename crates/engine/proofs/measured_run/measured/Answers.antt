use Rattle.std.proofs.lemmas.Result.{err_from_is_err_and}
use Rattle.engine.specs.Measures.{IsMeasuredWithin}
use Rattle.engine.proofs.Running.{ends, refused_declines}
use Rattle.engine.proofs.measured_run.measured.Goals as goal

pub returns-in-Ok : goal.returns-in-Ok
returns-in-Ok g c =
    let h = c.in-Ok.ensures in
    let now = c.in-Ok.checked in
    ends (λ l p a b m. IsMeasuredWithin l.segments c.args.op p a b m.answer.text m.answer.report m.measures) c.args.limits now.limits c.args.plan now.plan c.args.a.now c.args.b.now now.a.now now.b.now c.measured_by_workers.result c.or_fault.result h.same h.answer c.measured_by_workers.ensures c.or_fault.ensures

pub returns-in-Err : goal.returns-in-Err
returns-in-Err g c = refused_declines c.args.limits.segments c.args.plan c.args.a.now c.args.b.now c.in-Err.fault.at c.in-Err.fault.fault c.in-Err.ensures.answer

pub returns-in_err-check_plan : goal.returns-in_err-check_plan
returns-in_err-check_plan g c =
    let p = err_from_is_err_and c.from_residual.result c.from_residual.ensures.1 in
    let f = c.in_err-check_plan.field-0.0 in
    rw (p.1, p.2) (refused_declines c.args.limits.segments c.args.plan c.args.a.now c.args.b.now f.at f.fault (c.in_err-check_plan.ensures c.args.limits.segments c.args.a.now c.args.b.now))
