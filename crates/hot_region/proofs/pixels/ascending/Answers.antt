use Rattle.geom.proofs.Orders.{points_once, points_ascending}
use Rattle.hot_region.proofs.pixels.ascending.Goals as goal

pub returns : goal.returns
returns g c =
    let once = points_once c.args.pixels.items _ _ c.sort_unstable.ensures.permutation c.sort_unstable.ensures.sorted c.dedup.ensures.filtered in
    record {
      order = points_ascending _ once.ascending;
      same = λ p. once.same p;
    }
