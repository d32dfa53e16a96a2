use Rattle.polygonize.proofs.EdgesBelow.GapsBelow.{ends_in_limit}
use Rattle.polygonize.proofs.ladder.heights_of.Goals as goal

pub height_over-requires-clause-edge_in : goal.height_over-requires-clause-edge_in
height_over-requires-clause-edge_in c = ends_in_limit c.args.edge.from c.args.edge.to c.in-Some.edge.p c.in-Some.edge.q c.in-Some.ensures c.requires.edge_in

pub height_over-requires-in-Some-clause-edge_in : goal.height_over-requires-in-Some-clause-edge_in
height_over-requires-in-Some-clause-edge_in c = ends_in_limit c.args.edge.from c.args.edge.to c.in-Some.edge.p c.in-Some.edge.q c.in-Some.ensures c.requires.edge_in
