use Rattle.std.proofs.Common.{ℕ, subst}
use Rattle.std.proofs.lemmas.Result.{err_from_is_err_and}
use Rattle.layers.specs.Refusals.{segment_limit}
use Rattle.engine.specs.Results.{IsWrittenWithin}
use Rattle.engine.specs.Runs.{AreEdgesWritten, DeclinesWithin}
use Rattle.results.specs.declared.operation.Wanted.TheVariants.{Edges}
use Rattle.engine.proofs.Running.{may_run, sent_runs, stops}
use Rattle.engine.proofs.engine.edges.Goals as goal

pub returns-in_err-made : goal.returns-in_err-made
returns-in_err-made g c =
    let p = err_from_is_err_and c.from_residual.result c.from_residual.ensures.1 in
    let f = c.in_err-made.field-0.0 in
    rw (p.1, p.2) (stops segment_limit g.S.Sink.state c.args.sink.now c.args.plan c.args.a.now c.args.b.now (AreEdgesWritten c.args.plan c.args.a.now c.args.b.now) f.at f.fault
    (subst (λ (limit : ℕ). DeclinesWithin limit c.args.plan c.args.a.now c.args.b.now f.at f.fault) c.default-usual.ensures c.in_err-made.ensures))

pub returns : goal.returns
returns g c =
    let made = c.in_ok-made.made in
    let written = subst (λ (limit : ℕ). IsWrittenWithin limit Edges c.args.plan c.args.a.now c.args.b.now made.text made.report) c.default-usual.ensures c.in_ok-made.ensures in
    sent_runs segment_limit g.S.Sink.state c.args.sink.now c.send.new.sink c.args.plan c.args.a.now c.args.b.now (AreEdgesWritten c.args.plan c.args.a.now c.args.b.now) made
    (may_run segment_limit Edges c.args.plan c.args.a.now c.args.b.now made.text made.report written) written c.send.result c.send.ensures
