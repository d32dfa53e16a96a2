use Rattle.geom.proofs.Orders.{directed_ascending, directed_once}
use Rattle.polygonize_tests.proofs.closing.each_once.Goals as goal

pub returns : goal.returns
returns g c = directed_ascending c.dedup.new.self.items (directed_once c.args.edges.items c.sort_unstable.new.self.items c.dedup.new.self.items c.sort_unstable.ensures.permutation c.sort_unstable.ensures.sorted c.dedup.ensures.filtered).ascending
