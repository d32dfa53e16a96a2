use Rattle.std.proofs.Common.{refl}
use Rattle.lane_tests.proofs.EdgeLists.{chosen_more}
use Rattle.lane_tests.proofs.edges.Edges.of.Goals as goal

pub loop-number-preserved : goal.loop-number-preserved
loop-number-preserved g c =
    chosen_more c.args.edges.now c.args.numbers.now _ _ c.index-edges-number.result c.loop-number.chosen c.push.new.self c.loop-number-test.true refl (c.requires.in_range _ 0 c.loop-number-test.true) c.index-edges-number.is
    c.loop-number.invariant c.in_ok-push.ensures.ok
