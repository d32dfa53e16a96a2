use Rattle.std.proofs.Common.{[], arith}
use Rattle.std.specs.List.Retain.{DiffersFromLast}
use Rattle.geom.proofs.Orders.{edges_once, edges_ascending, same_edge}
use Rattle.hot_pixel.proofs.PairCounts.{lines_are, pairs_each, pairs_fewer}
use Rattle.hot_pixel.proofs.lines.lines.Goals as goal

pub returns : goal.returns
returns g c =
    let once = edges_once c.in_ok-list.list.items _ _ c.sort_unstable.ensures.permutation c.sort_unstable.ensures.sorted c.dedup.ensures.filtered in
    record {
      order = edges_ascending _ once.ascending;
      lines = lines_are _ _ _ c.in_ok-list.ensures once.same;
      pairs = (let p = pairs_each _ c.in_ok-list.list.items c.in_ok-list.ensures in let q = pairs_fewer (DiffersFromLast same_edge) [] c.in_ok-list.list.items _ c.dedup.new.self.items c.sort_unstable.ensures.permutation c.dedup.ensures.filtered in omega arith);
    }
