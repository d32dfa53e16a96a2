use Rattle.geom.proofs.Orders.{points_once}
use Rattle.label_sweep.proofs.Ends.{are_vertices}
use Rattle.label_sweep.proofs.vertices.each_once.Goals as goal

pub returns : goal.returns
returns g c = λ es ends. are_vertices es c.args.points.items c.dedup.new.self.items ends
    (points_once c.args.points.items c.sort.new.self.items c.dedup.new.self.items c.sort.ensures.permutation c.in_ok-sort.ensures.sorted c.dedup.ensures.filtered)
