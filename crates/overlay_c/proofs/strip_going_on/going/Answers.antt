use Rattle.std.proofs.Common.{◌≡◌, ◌∙◌, List, ap, map, sym}
use Rattle.std.proofs.lemmas.Result.{IfOk-weaker}
use Rattle.geom.specs.declared.edge.Counted.{Counted}
use Rattle.overlay_c.specs.Strips.{one_list, told_counted}
use Rattle.overlay_c.specs.StripLabels.{AreGoingOn}
use Rattle.overlay_c.proofs.StripEdges.{crossing_counted, own_counted, told_going}
use Rattle.overlay_c.proofs.strip_going_on.going.Goals as goal

pub edges_of-requires : goal.edges_of-requires
edges_of-requires c = crossing_counted c.args.cuts.now c.args.strip c.args.crossing.now c.requires.crossing_in

pub edges_of-requires-2 : goal.edges_of-requires-2
edges_of-requires-2 c = own_counted c.args.cuts.now c.args.strip c.args.own.now c.requires.own_in

pub returns : goal.returns
returns c =
    let cuts = c.args.cuts.now in
    let passed = c.args.crossing.now in
    let mine = c.args.own.now in
    let made = c.deref-3.result.now in
    IfOk-weaker c.told_edges.result (λ v. v.items ≡ map told_counted made) (λ v. AreGoingOn cuts c.args.strip passed mine (one_list v.items))
    (λ v e. told_going cuts c.args.strip passed mine c.requires c.deref.result.now c.deref-2.result.now c.in_ok-going_on.field-0.items
    (c.in_ok-crossing.ensures ∙ ap (λ (xs : List Counted). map told_counted xs) (sym c.deref.ensures.value))
    (c.in_ok-own.ensures ∙ ap (λ (xs : List Counted). map told_counted xs) (sym c.deref-2.ensures.value))
    c.in_ok-going_on.ensures v.items (e ∙ ap (λ (xs : List Counted). map told_counted xs) c.deref-3.ensures.value)) c.told_edges.ensures
