use Rattle.std.proofs.lemmas.Result.{err_from_is_err_and}
use Rattle.engine.specs.Results.{IsResultWrittenWithin}
use Rattle.results.specs.declared.operation.Wanted.TheVariants.{Apply}
use Rattle.engine.proofs.Running.{may_run, sent_runs, stops}
use Rattle.engine.proofs.engine.run_within.Goals as goal

pub returns-in_err-made : goal.returns-in_err-made
returns-in_err-made g c =
    let p = err_from_is_err_and c.from_residual.result c.from_residual.ensures.1 in
    let f = c.in_err-made.field-0.0 in
    rw (p.1, p.2) (stops c.args.limits.segments g.S.Sink.state c.args.sink.now c.args.plan c.args.a.now c.args.b.now (IsResultWrittenWithin c.args.limits.segments c.args.op c.args.plan c.args.a.now c.args.b.now) f.at f.fault c.in_err-made.ensures)

pub returns : goal.returns
returns g c =
    let made = c.in_ok-made.made in
    sent_runs c.args.limits.segments g.S.Sink.state c.args.sink.now c.send.new.sink c.args.plan c.args.a.now c.args.b.now (IsResultWrittenWithin c.args.limits.segments c.args.op c.args.plan c.args.a.now c.args.b.now) made
    (may_run c.args.limits.segments (Apply c.args.op) c.args.plan c.args.a.now c.args.b.now made.text made.report c.in_ok-made.ensures) c.in_ok-made.ensures c.send.result c.send.ensures
