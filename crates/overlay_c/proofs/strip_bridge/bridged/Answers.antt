use Rattle.std.proofs.Common.{◌∙◌, List, ap, map, sym}
use Rattle.geom.specs.declared.edge.Counted.{Counted}
use Rattle.strips_law.specs.declared.line.Carried.{Carried}
use Rattle.strips_law.specs.declared.line.Open.{Open}
use Rattle.overlay_c.specs.Strips.{IsOpen, IsOpenBefore, told_carried, told_counted, told_open}
use Rattle.overlay_c.proofs.StripLists.{each_item}
use Rattle.overlay_c.proofs.StripTelling.{bridged_lists}
use Rattle.overlay_c.proofs.strip_bridge.bridged.Goals as goal

pub opens_of-requires : goal.opens_of-requires
opens_of-requires c = each_item IsOpen IsOpenBefore c.args.left.now c.requires.in_place.left_in

pub opens_of-requires-2 : goal.opens_of-requires-2
opens_of-requires-2 c = each_item IsOpen IsOpenBefore c.args.right.now c.requires.in_place.right_in

pub returns : goal.returns
returns c = bridged_lists c.args.left.now c.args.right.now c.args.carried.now c.requires c.deref.result.now c.deref-2.result.now c.deref-3.result.now c.in_ok-made.made.across.items c.in_ok-made.made.carried.items
    c.in_ok-made.ensures
    (c.in_ok-left.ensures ∙ ap (λ (xs : List Open). map told_open xs) (sym c.deref.ensures.value)) (c.in_ok-right.ensures ∙ ap (λ (xs : List Open). map told_open xs) (sym c.deref-2.ensures.value))
    (c.in_ok-there.ensures ∙ ap (λ (xs : List Carried). map told_carried xs) (sym c.deref-3.ensures.value))
    c.in_ok-told_edges.field-0.items c.in_ok-told_carried_all.field-0.items (c.in_ok-told_edges.ensures ∙ ap (λ (xs : List Counted). map told_counted xs) c.deref-4.ensures.value)
    (c.in_ok-told_carried_all.ensures ∙ ap (λ (xs : List Carried). map told_carried xs) c.deref-5.ensures.value)
