use Rattle.std.proofs.Common.{List, ap, subst}
use Rattle.std.specs.Prelude.{flat_map}
use Rattle.linking.specs.declared.link.Link.{Link}
use Rattle.linking.specs.Links.{AreCounts}
use Rattle.linking.proofs.counting.counts_of_lists.Goals as goal

pub returns : goal.returns
returns g c = rw c.in_ok-joined.ensures (subst (λ (ls : List Link). AreCounts ls (flat_map (λ l. l.items) c.in_ok-counted.counted.items)) (ap (flat_map (λ l. l.items.items)) c.deref.ensures.value) c.in_ok-counted.ensures)
