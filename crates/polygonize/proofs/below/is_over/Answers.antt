use Rattle.polygonize.proofs.EdgesBelow.GapsBelow.{over_tests}
use Rattle.polygonize.proofs.below.is_over.Goals as goal
use Rattle.geom.proofs.Doubling.{back}

pub returns-then-edge-v : goal.returns-then-edge-v
returns-then-edge-v c = over_tests c.args.edge.now.p.x c.args.edge.now.q.x c.args.v.x _ _ _ (back c.args.edge.now.p.x c.requires.edge_in.a_in.x_in) (back c.args.edge.now.q.x c.requires.edge_in.b_in.x_in) (back c.args.v.x c.requires.v_in.x_in) c.if-edge-v.true
