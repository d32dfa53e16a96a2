use Rattle.std.proofs.Common.{flat_map}
use Rattle.std.proofs.lemmas.Result.{IfOk-weaker}
use Rattle.linking.specs.Shares.{feature_column_of}
use Rattle.linking.specs.Spans.{within}
use Rattle.linking.proofs.OddParts.{odd_moved}
use Rattle.linking.proofs.bordering.fn.odd_in_shares.map_parts.Goals as goal

pub returns : goal.returns
returns g c =
    let found = flat_map (λ l. l.items.items) c.captures.lists.now in
    IfOk-weaker c.odd_in_order.result _ _ (λ odd h. odd_moved (within feature_column_of c.args.share.span found) c.in_ok-links.links.items.items odd.items c.in_ok-links.ensures h) c.odd_in_order.ensures
