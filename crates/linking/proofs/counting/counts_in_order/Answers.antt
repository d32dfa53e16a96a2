use Rattle.std.proofs.Common.{List, subst}
use Rattle.std.proofs.lemmas.Result.{IfOk-weaker}
use Rattle.linking.specs.declared.link.Link.{Link}
use Rattle.linking.specs.Links.{AreCounts}
use Rattle.linking.proofs.LinkParts.{sorted_in_order}
use Rattle.linking.proofs.counting.counts_in_order.Goals as goal

pub count_sorted-requires : goal.count_sorted-requires
count_sorted-requires g c =
    let links = c.args.links.now in
    rw c.deref.ensures.value (record { in_order = sorted_in_order links.items.items links.sorted; short = c.requires.short })

pub returns : goal.returns
returns g c = IfOk-weaker c.count_sorted.result _ _ (λ v h. subst (λ (ls : List Link). AreCounts ls v.items) c.deref.ensures.value h) c.count_sorted.ensures
