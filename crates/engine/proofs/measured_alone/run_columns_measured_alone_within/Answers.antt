use Rattle.std.proofs.Common.{◌≡◌}
use Rattle.engine.specs.Measures.{AreColumnsMeasured}
use Rattle.engine.specs.Runs.{alone}
use Rattle.engine.proofs.ColumnsRunning.{ends, refused_declines}
use Rattle.engine.proofs.Remade.{made_known}
use Rattle.engine.proofs.measured_alone.run_columns_measured_alone_within.Goals as goal

pub returns-in-Ok-clause-answer : goal.returns-in-Ok-clause-answer
returns-in-Ok-clause-answer g c =
    ends (λ limit p m. AreColumnsMeasured limit c.args.op p c.args.a.now c.args.b.now m.answer m.measures) c.args.limits (alone c.args.side) c.args.a.now c.args.b.now c.in-Ok.checked c.columns_measured_by_one.result c.or_refused.result c.in-Ok.ensures.same c.in-Ok.ensures.answer
    c.columns_measured_by_one.ensures.measured c.or_refused.ensures

pub returns-in-Err-clause-answer : goal.returns-in-Err-clause-answer
returns-in-Err-clause-answer g c = refused_declines c.args.limits.segments (alone c.args.side) c.args.a.now c.args.b.now c.in-Err.refused c.in-Err.ensures.answer

pub returns-in-Ok-clause-none_remade : goal.returns-in-Ok-clause-none_remade
returns-in-Ok-clause-none_remade g c = made_known (λ m. m.answer.report.remade ≡ 0) _ c.columns_measured_by_one.result c.or_refused.result c.columns_measured_by_one.ensures.none_remade c.or_refused.ensures
