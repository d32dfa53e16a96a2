use Rattle.std.proofs.Common.{arith, flat_map}
use Rattle.std.proofs.lemmas.List.Sorted.{length_permutation}
use Rattle.std.proofs.lemmas.Result.{IfOk-weaker}
use Rattle.linking.specs.Shares.{column_of}
use Rattle.linking.specs.Spans.{is_in, within}
use Rattle.linking.proofs.LinkParts.{counts_moved}
use Rattle.linking.proofs.SpanLaws.{filter_few}
use Rattle.linking.proofs.counting.fn.counted_in_shares.map_parts.Goals as goal

pub counts_in_order-requires : goal.counts_in_order-requires
counts_in_order-requires g c =
    let found = flat_map (λ l. l.items.items) c.captures.lists.now in
    let few = filter_few (λ l. is_in c.args.share.span (column_of l)) found in
    let same = length_permutation _ _ c.in_ok-links.ensures in
    let all = c.requires in
    record { short = omega (arith, few, same, all) }

pub returns : goal.returns
returns g c =
    let found = flat_map (λ l. l.items.items) c.captures.lists.now in
    IfOk-weaker c.counts_in_order.result _ _ (λ v h. counts_moved (within column_of c.args.share.span found) c.in_ok-links.links.items.items v.items c.in_ok-links.ensures h) c.counts_in_order.ensures
