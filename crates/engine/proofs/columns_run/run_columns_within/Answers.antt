use Rattle.engine.specs.ColumnsRuns.{AreColumnsMade}
use Rattle.engine.proofs.ColumnsRunning.{ends, refused_declines}
use Rattle.engine.proofs.columns_run.run_columns_within.Goals as goal

pub returns-in-Ok : goal.returns-in-Ok
returns-in-Ok g c =
    ends (λ limit p made. AreColumnsMade limit c.args.op p c.args.a.now c.args.b.now made) c.args.limits c.args.plan c.args.a.now c.args.b.now c.in-Ok.checked c.columns_by_workers.result c.or_refused.result c.in-Ok.ensures.same c.in-Ok.ensures.answer
    c.columns_by_workers.ensures c.or_refused.ensures

pub returns-in-Err : goal.returns-in-Err
returns-in-Err g c = refused_declines c.args.limits.segments c.args.plan c.args.a.now c.args.b.now c.in-Err.refused c.in-Err.ensures.answer
