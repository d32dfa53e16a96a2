use Rattle.cover_sets_tests.proofs.Bordering.{one_more_ascends}
use Rattle.cover_sets_tests.proofs.deciding.are_ascending.Goals as goal

pub loop-k-preserved : goal.loop-k-preserved
loop-k-preserved c = one_more_ascends c.args.borders.now c.loop-k.k c.index-borders-k.result c.loop-k-test.true (c.are_before.ensures c.if-not-are_before.false) c.loop-k.invariant
