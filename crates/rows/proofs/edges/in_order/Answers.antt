use Rattle.rows.proofs.Order.{row_edges_ascending, row_edges_once}
use Rattle.rows.proofs.edges.in_order.Goals as goal

pub returns : goal.returns
returns g c =
    let once = row_edges_once c.args.list.items c.sorted-list.result.items c.dedup.new.self.items c.sorted-list.ensures.permutation c.sorted-list.ensures.sorted c.dedup.ensures.filtered in
    record { ascending = row_edges_ascending c.dedup.new.self.items once.ascending; same = once.same }
