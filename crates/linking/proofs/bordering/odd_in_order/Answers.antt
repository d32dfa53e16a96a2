use Rattle.std.proofs.Common.{List, subst}
use Rattle.std.proofs.lemmas.Result.{IfOk-weaker}
use Rattle.feature_links.specs.declared.link.FeatureLink.{FeatureLink}
use Rattle.feature_links.specs.Odd.{AreOdd}
use Rattle.linking.proofs.OddParts.{features_in_order}
use Rattle.linking.proofs.bordering.odd_in_order.Goals as goal

pub odd_links-requires : goal.odd_links-requires
odd_links-requires g c = let links = c.args.links.now in rw c.deref.ensures.value (features_in_order links.items.items links.sorted)

pub returns : goal.returns
returns g c = IfOk-weaker c.odd_links.result _ _ (λ odd h. subst (λ (ls : List FeatureLink). AreOdd ls odd.items) c.deref.ensures.value h) c.odd_links.ensures
