use Rattle.polygonize.proofs.EdgesBelow.Ladders.{stand_in_order}
use Rattle.polygonize.proofs.nearest.nearest_of.Goals as goal

pub highest_below-requires-clause-order : goal.highest_below-requires-clause-order
highest_below-requires-clause-order c = stand_in_order c.args.edges.list.now c.args.columns c.args.v c.args.numbers.now (c.requires.ladder c.if-is_ladder.true) (c.requires.column c.if-is_ladder.true)
