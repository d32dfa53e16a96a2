use Rattle.std.proofs.Common.{subst, sym}
use Rattle.std.proofs.lemmas.Result.{err_from_is_err_and}
use Rattle.geom.specs.declared.fault.Fault.{Fault}
use Rattle.results.specs.declared.text.Report.{Report}
use Rattle.engine.specs.Measures.{IsMeasuredWithin}
use Rattle.engine.specs.Runs.{StopsWithin}
use Rattle.engine.proofs.Running.{stops}
use Rattle.engine.proofs.measured_run.run_measured_within.Goals as goal

pub returns-in_err-made : goal.returns-in_err-made
returns-in_err-made g c =
    let p = err_from_is_err_and c.from_residual.result c.from_residual.ensures.1 in
    let f = c.in_err-made.field-0.0 in
    rw (p.1, p.2) (stops c.args.limits.segments g.S.Sink.state c.args.sink.now c.args.plan c.args.a.now c.args.b.now (λ text m. IsMeasuredWithin c.args.limits.segments c.args.op c.args.plan c.args.a.now c.args.b.now text m.answer m.measures) f.at f.fault c.in_err-made.ensures)

pub returns-in-Ok : goal.returns-in-Ok
returns-in-Ok g c =
    let made = c.in_ok-made.made in
    let measured = c.in_ok-made.ensures in
    let reports = measured.written.reports in
    record {
      may = (reports.rings_a, reports.rings_b, reports.grid, reports.ready);
      text = made.answer.text;
      is_answer = subst (λ (r : Report g.row.A.Denot). IsMeasuredWithin c.args.limits.segments c.args.op c.args.plan c.args.a.now c.args.b.now made.answer.text r made.measures) (sym c.in-Ok.ensures.0) measured;
      sent = c.in-Ok.ensures.1;
    }

pub returns-in-Err : goal.returns-in-Err
returns-in-Err g c =
    let made = c.in_ok-made.made in
    let measured = c.in_ok-made.ensures in
    let reports = measured.written.reports in
    let f = c.in-Err.fault in
    subst (λ (fault : Fault). StopsWithin c.args.limits.segments g.S.Sink.state c.args.sink.now c.send.new.sink c.args.plan c.args.a.now c.args.b.now (λ text m. IsMeasuredWithin c.args.limits.segments c.args.op c.args.plan c.args.a.now c.args.b.now text m.answer m.measures) f.at fault) (sym c.in-Err.ensures.1) (
      c.in-Err.ensures.0,
      record {
        may = (reports.rings_a, reports.rings_b, reports.grid, reports.ready);
        text = made.answer.text;
        report = record { answer = made.answer.report; measures = made.measures };
        is_answer = measured;
        sent = c.in-Err.ensures.2;
      },
    )
