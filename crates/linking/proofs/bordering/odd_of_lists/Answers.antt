use Rattle.std.proofs.Common.{List, ap, subst}
use Rattle.std.specs.Prelude.{flat_map}
use Rattle.feature_links.specs.declared.link.FeatureLink.{FeatureLink}
use Rattle.feature_links.specs.Odd.{AreOdd}
use Rattle.linking.proofs.bordering.odd_of_lists.Goals as goal

pub returns : goal.returns
returns g c = rw c.in_ok-joined.ensures (subst (λ (ls : List FeatureLink). AreOdd ls (flat_map (λ l. l.items) c.in_ok-odd.odd.items)) (ap (flat_map (λ l. l.items.items)) c.deref.ensures.value) c.in_ok-odd.ensures)
