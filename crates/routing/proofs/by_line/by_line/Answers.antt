use Rattle.routing.proofs.CuttingLaws.{cut_itself, cut_sorted, table_sorted}
use Rattle.routing.proofs.by_line.by_line.Goals as goal

pub returns : goal.returns
returns g c =
    let table = table_sorted c.args.limited.list.now c.args.numbers.now c.in_ok-entries.entries.items c.in_order-whole.result.items c.in_order-whole.ensures c.in_ok-entries.ensures in
    record { whole = c.in_order-whole.result.items; is_table = table; are_cut = cut_sorted c.in_order-whole.result.items c.in_ok-table.table.items _ c.in_order.ensures c.in_ok-table.ensures }

pub returns-then-are_apart : goal.returns-then-are_apart
returns-then-are_apart g c =
    let entries = c.in_ok-entries.entries.items in
    record { whole = entries; is_table = c.in_ok-entries.ensures; are_cut = cut_itself entries }
