use Rattle.std.proofs.Common.{ℕ, subst}
use Rattle.engine.specs.CoveredRuns.{RunsCovered}
use Rattle.engine.proofs.covered_run.run_covered.Goals as goal

pub returns : goal.returns
returns g c =
    subst (λ (limit : ℕ). RunsCovered limit g.S.Sink.state c.args.sink.now c.run_covered_within.new.sink c.args.op c.args.plan c.args.a.now c.args.b.now c.run_covered_within.result)
    c.default.ensures c.run_covered_within.ensures
