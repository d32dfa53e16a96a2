use Rattle.cover_sets_tests.specs.Deciding.{EndsAreEven}
use Rattle.cover_sets_tests.proofs.Evens.{not_odd, one_more}
use Rattle.cover_sets_tests.proofs.degrees.ends_are_even.Goals as goal

pub loop-b-preserved : goal.loop-b-preserved
loop-b-preserved c = one_more (EndsAreEven c.args.features.now c.args.f c.args.borders.now) c.args.borders.now c.loop-b.b-index c.b-item.result c.loop-b-test.true c.b-item.is c.loop-b.invariant
    (record { first = not_odd _ _ c.degree.ensures c.if-degree-eq1.false; second = not_odd _ _ c.degree-else-degree-eq1.ensures c.if-degree-eq1-2.false })
