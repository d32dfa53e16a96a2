use Rattle.std.proofs.Common.{◌≡◌}
use Rattle.engine.specs.ColumnsRuns.{AreColumnsMade}
use Rattle.engine.specs.Runs.{alone}
use Rattle.engine.proofs.ColumnsRunning.{ends, refused_declines}
use Rattle.engine.proofs.Remade.{made_known}
use Rattle.engine.proofs.columns_alone.run_columns_alone_within.Goals as goal

pub returns-in-Ok-clause-answer : goal.returns-in-Ok-clause-answer
returns-in-Ok-clause-answer g c =
    ends (λ limit p made. AreColumnsMade limit c.args.op p c.args.a.now c.args.b.now made) c.args.limits (alone c.args.side) c.args.a.now c.args.b.now c.in-Ok.checked c.columns_by_one.result c.or_refused.result c.in-Ok.ensures.same c.in-Ok.ensures.answer
    c.columns_by_one.ensures.made c.or_refused.ensures

pub returns-in-Err-clause-answer : goal.returns-in-Err-clause-answer
returns-in-Err-clause-answer g c = refused_declines c.args.limits.segments (alone c.args.side) c.args.a.now c.args.b.now c.in-Err.refused c.in-Err.ensures.answer

pub returns-in-Ok-clause-none_remade : goal.returns-in-Ok-clause-none_remade
returns-in-Ok-clause-none_remade g c = made_known (λ m. m.report.remade ≡ 0) _ c.columns_by_one.result c.or_refused.result c.columns_by_one.ensures.none_remade c.or_refused.ensures
