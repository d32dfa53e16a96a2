use Rattle.std.proofs.Common.{arith}
use Rattle.std.proofs.lemmas.List.Sorted.{length_permutation}
use Rattle.std.proofs.lemmas.Result.{IfOk-weaker}
use Rattle.linking.proofs.LinkParts.{counts_moved}
use Rattle.linking.proofs.counting.counts.Goals as goal

pub counts_in_order-requires : goal.counts_in_order-requires
counts_in_order-requires g c = let e = length_permutation _ _ c.of-links.ensures in let r = c.requires.short in record { short = omega (arith, e, r) }

pub returns : goal.returns
returns g c = IfOk-weaker c.counts_in_order.result _ _ (λ v h. counts_moved c.args.links.items c.of-links.result.items.items v.items c.of-links.ensures h) c.counts_in_order.ensures
