use Rattle.geom.proofs.Orders.{directed_ascending, directed_once}
use Rattle.label_sweep.proofs.directed.put_in_order.Goals as goal

pub returns-clause-ascending : goal.returns-clause-ascending
returns-clause-ascending g c =
    directed_ascending c.dedup.new.self.items
    (directed_once c.args.edges.now.items c.sort_unstable.new.self.items c.dedup.new.self.items c.sort_unstable.ensures.permutation c.sort_unstable.ensures.sorted c.dedup.ensures.filtered).ascending

pub returns-clause-same : goal.returns-clause-same
returns-clause-same g c =
    (directed_once c.args.edges.now.items c.sort_unstable.new.self.items c.dedup.new.self.items c.sort_unstable.ensures.permutation c.sort_unstable.ensures.sorted c.dedup.ensures.filtered).same
