use Rattle.std.proofs.Common.{ap, length, sym, ◌∙◌}
use Rattle.std.proofs.lemmas.List.{with_items_is}
use Rattle.strip_polygons.specs.declared.classes.Link.{Link}
use Rattle.strip_polygons.proofs.ClassesLinked.{all_alone, classes_found, one_more_link}
use Rattle.strip_polygons.proofs.classes.classes_of.Goals as goal

pub loop-link-init : goal.loop-link-init
loop-link-init g c = rw c.in_ok-above.ensures (all_alone c.args.links.now c.args.count)

pub loop-link-preserved : goal.loop-link-preserved
loop-link-preserved g c =
    let same_length = c.join.auto.above ∙ ap length c.deref_mut.ensures.value in
    let nowhere : Link = record { first = 0; second = 0 } in
    rw (with_items_is c.loop-link.above c.join.new.above (same_length ∙ sym c.loop-link.above.ok.0))
    (one_more_link c.args.links.now c.args.count c.loop-link.link-index nowhere c.loop-link.above.items c.join.new.above
    c.requires c.loop-link-test.true c.loop-link.invariant same_length c.join.ensures.forest (rw c.deref_mut.ensures.value at c.join.ensures.joined))

pub returns : goal.returns
returns g c = classes_found c.args.links.now c.args.count c.loop-link.link-index c.loop-link.above.items c.roots_of.result.items
    c.requires c.loop-link-test.false c.loop-link.invariant c.roots_of.ensures.same_length c.roots_of.ensures.roots
