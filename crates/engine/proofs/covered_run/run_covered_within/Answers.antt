use Rattle.std.proofs.lemmas.Result.{err_from_is_err_and}
use Rattle.engine.proofs.CoveredRunning.{sent_runs, stops}
use Rattle.engine.proofs.covered_run.run_covered_within.Goals as goal

pub returns-in_err-made : goal.returns-in_err-made
returns-in_err-made g c =
    let p = err_from_is_err_and c.from_residual.result c.from_residual.ensures.1 in
    let f = c.in_err-made.field-0.0 in
    rw (p.1, p.2) (stops c.args.limits.segments c.args.op c.args.plan c.args.a.now c.args.b.now g.row.A.Denot g.S.Sink.state c.args.sink.now f.at f.refusal c.in_err-made.ensures)

pub returns : goal.returns
returns g c =
    sent_runs c.args.limits.segments c.args.op c.args.plan c.args.a.now c.args.b.now g.S.Sink.state c.args.sink.now c.send_covered.new.sink c.in_ok-made.made c.in_ok-made.ensures c.send_covered.result c.send_covered.ensures
