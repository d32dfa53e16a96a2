use Rattle.std.proofs.Common.{◌≡◌}
use Rattle.engine.specs.Results.{IsWrittenWithin}
use Rattle.engine.specs.Runs.{alone}
use Rattle.engine.proofs.Remade.{made_known}
use Rattle.std.proofs.lemmas.Result.{err_from_is_err_and}
use Rattle.engine.proofs.Running.{ends, refused_declines}
use Rattle.engine.proofs.alone.made_alone.Goals as goal

pub returns-in-Ok-clause-answer : goal.returns-in-Ok-clause-answer
returns-in-Ok-clause-answer g c =
    let h = c.in-Ok.ensures in
    let now = c.in-Ok.checked in
    ends (λ l p a b m. IsWrittenWithin l.segments c.args.wanted p a b m.text.items m.report) c.args.limits now.limits (alone c.args.side) now.plan c.args.a.now c.args.b.now now.a.now now.b.now c.by_one.result c.or_fault.result h.same h.answer c.by_one.ensures.written c.or_fault.ensures

pub returns-in-Err-clause-answer : goal.returns-in-Err-clause-answer
returns-in-Err-clause-answer g c = refused_declines c.args.limits.segments (alone c.args.side) c.args.a.now c.args.b.now c.in-Err.fault.at c.in-Err.fault.fault c.in-Err.ensures.answer

pub returns-in_err-check_plan-clause-answer : goal.returns-in_err-check_plan-clause-answer
returns-in_err-check_plan-clause-answer g c =
    let p = err_from_is_err_and c.from_residual.result c.from_residual.ensures.1 in
    let f = c.in_err-check_plan.field-0.0 in
    rw (p.1, p.2) (refused_declines c.args.limits.segments (alone c.args.side) c.args.a.now c.args.b.now f.at f.fault (c.in_err-check_plan.ensures c.args.limits.segments c.args.a.now c.args.b.now))

pub returns-in-Ok-clause-none_remade : goal.returns-in-Ok-clause-none_remade
returns-in-Ok-clause-none_remade g c = made_known (λ m. m.report.remade ≡ 0) _ c.by_one.result c.or_fault.result c.by_one.ensures.none_remade c.or_fault.ensures
