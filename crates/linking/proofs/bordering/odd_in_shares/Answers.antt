use Rattle.std.proofs.Common.{List, flat_map, subst, sym}
use Rattle.std.proofs.lemmas.Result.{IfOk-weaker}
use Rattle.std.specs.Prelude.{None}
use Rattle.linking.specs.declared.span.Share.{Share}
use Rattle.linking.specs.Shares.{AreSharesFrom}
use Rattle.linking.proofs.OddParts.{shared_odd}
use Rattle.linking.proofs.bordering.odd_in_shares.Goals as goal

pub returns : goal.returns
returns g c =
    let found = flat_map (λ l. l.items.items) c.args.lists.now in
    let shares = c.deref.result.now in
    let all = subst (λ (ss : List Share). AreSharesFrom None ss) (sym c.deref.ensures.value) c.in_ok-shares.ensures in
    IfOk-weaker c.map_parts.result _ _ (λ v zip. shared_odd (λ l. l.items) found shares v.items all zip) c.map_parts.ensures
