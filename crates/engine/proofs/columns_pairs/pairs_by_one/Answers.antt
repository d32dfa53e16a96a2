use Rattle.std.proofs.Common.{◌≡◌, ◌∙◌, List, arith, subst}
use Rattle.geom.specs.Canonical.{Shape}
use Rattle.columns.specs.Answers.{AreColumnsOf}
use Rattle.engine.proofs.PairsRunning.{one_made}
use Rattle.engine.proofs.columns_pairs.pairs_by_one.Goals as goal

pub loop-feature-preserved : goal.loop-feature-preserved
loop-feature-preserved g c =
    one_made c.args.op c.args.a.now c.args.b.now c.loop-feature.feature c.in_ok-polygons.polygons.items c.loop-feature.results c.push.new.self c.in_ok-polygons.ensures
    (λ results h. c.in_ok-push.ensures results h) c.loop-feature.invariant

pub returns : goal.returns
returns g c = λ limit may.
    let made = c.loop-feature.invariant in
    let end : c.loop-feature.feature ≡ c.feature_count-feature-end.result = omega (arith, c.loop-feature-test.false, c.loop-feature.auto.feature-end) in
    record {
      may = may;
      results = made.results;
      count = made.count_is ∙ end ∙ c.feature_count-feature-end.ensures;
      are_results = made.are_results;
      columns = subst (λ (ps : List Shape). AreColumnsOf ps c.in_ok-columns.columns) (c.deref.ensures.value ∙ made.have.polygons) c.in_ok-columns.ensures.columns;
      features = made.have.features;
    }
