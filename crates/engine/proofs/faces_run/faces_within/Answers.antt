use Rattle.std.proofs.Common.{map}
use Rattle.std.proofs.lemmas.Result.{err_from_is_err_and}
use Rattle.engine.proofs.FacesRunning.{sent_runs, stops}
use Rattle.engine.proofs.faces_run.faces_within.Goals as goal

pub returns-in_err-made : goal.returns-in_err-made
returns-in_err-made g c =
    let p = err_from_is_err_and c.from_residual.result c.from_residual.ensures.1 in
    let f = c.in_err-made.field-0.0 in
    rw (p.1, p.2) (stops c.args.limits c.args.plan (map (λ t. t.now) c.args.layers.now) g.row.A.Denot g.S.Sink.state c.args.sink.now f.at f.refusal c.in_err-made.ensures)

pub returns : goal.returns
returns g c =
    sent_runs c.args.limits c.args.plan (map (λ t. t.now) c.args.layers.now) g.S.Sink.state c.args.sink.now c.send_faces.new.sink c.in_ok-made.made c.in_ok-made.ensures c.send_faces.result c.send_faces.ensures
