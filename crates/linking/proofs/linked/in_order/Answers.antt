use Rattle.routing.proofs.RecordOrder.{records_once}
use Rattle.linking.proofs.linked.in_order.Goals as goal

pub returns : goal.returns
returns g c =
    let once = records_once c.args.records.items c.sorted-records.result.items c.dedup.new.self.items c.sorted-records.ensures.permutation c.sorted-records.ensures.sorted c.dedup.ensures.filtered in
    record { ascending = once.ascending; same = once.same }
