use Rattle.polygonize.proofs.EdgesBelow.Columns.{first_way, two_ways}
use Rattle.polygonize.proofs.column.meets.Goals as goal
use Rattle.geom.proofs.Doubling.{back}

pub returns-else-reaches : goal.returns-else-reaches
returns-else-reaches c = two_ways c.args.edge.from.x c.args.edge.to.x c.args.columns.high c.args.columns.low _ _ _ _ (back c.args.edge.from.x c.requires.edge_in.a_in.x_in) (back c.args.edge.to.x c.requires.edge_in.b_in.x_in) (back c.args.columns.high c.requires.high_in) (back c.args.columns.low c.requires.low_in)
    c.reaches.result c.reaches-else-reaches.result c.if-reaches.false c.reaches.ensures c.reaches-else-reaches.ensures

pub returns-then-reaches : goal.returns-then-reaches
returns-then-reaches c = first_way c.args.edge.from.x c.args.edge.to.x c.args.columns.high c.args.columns.low _ _ _ _ (back c.args.edge.from.x c.requires.edge_in.a_in.x_in) (back c.args.edge.to.x c.requires.edge_in.b_in.x_in) (back c.args.columns.high c.requires.high_in) (back c.args.columns.low c.requires.low_in)
    c.reaches.result c.if-reaches.true c.reaches.ensures
