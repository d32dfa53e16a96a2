use Rattle.geom.proofs.Orders.{edges_ascending, edges_once}
use Rattle.edge_test.proofs.ordered.put_in_order.Goals as goal

pub returns-clause-ascending : goal.returns-clause-ascending
returns-clause-ascending g c =
    edges_ascending c.dedup.new.self.items (edges_once c.args.edges.now.items c.sort_unstable.new.self.items c.dedup.new.self.items c.sort_unstable.ensures.permutation c.sort_unstable.ensures.sorted c.dedup.ensures.filtered).ascending

pub returns-clause-same : goal.returns-clause-same
returns-clause-same g c =
    (edges_once c.args.edges.now.items c.sort_unstable.new.self.items c.dedup.new.self.items c.sort_unstable.ensures.permutation c.sort_unstable.ensures.sorted c.dedup.ensures.filtered).same
