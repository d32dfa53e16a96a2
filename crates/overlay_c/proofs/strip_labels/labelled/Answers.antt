use Rattle.std.proofs.Common.{◌≡◌, ◌∙◌, List, ap, map, sym}
use Rattle.std.proofs.lemmas.Result.{IfOk-weaker}
use Rattle.geom.specs.declared.directed.DirectedEdge.{DirectedEdge}
use Rattle.geom.specs.declared.edge.Counted.{Counted}
use Rattle.overlay_c.specs.Strips.{one_list, told_counted}
use Rattle.overlay_c.specs.StripLabels.{AreLabelsOf, told_directed}
use Rattle.overlay_c.proofs.StripEdges.{are_counted, told_in_limit, told_labels}
use Rattle.overlay_c.proofs.strip_labels.labelled.Goals as goal

pub edges_of-requires : goal.edges_of-requires
edges_of-requires c = are_counted c.args.crossing.now c.requires.in_place.crossing_in

pub edges_of-requires-2 : goal.edges_of-requires-2
edges_of-requires-2 c = are_counted c.args.own.now c.requires.in_place.own_in

pub labels-requires-clause-crossing_in : goal.labels-requires-clause-crossing_in
labels-requires-clause-crossing_in c = told_in_limit c.args.crossing.now c.requires.in_place.crossing_in c.deref.result.now
    (c.in_ok-crossing.ensures ∙ ap (λ (xs : List Counted). map told_counted xs) (sym c.deref.ensures.value))

pub labels-requires-clause-own_in : goal.labels-requires-clause-own_in
labels-requires-clause-own_in c = told_in_limit c.args.own.now c.requires.in_place.own_in c.deref-2.result.now
    (c.in_ok-own.ensures ∙ ap (λ (xs : List Counted). map told_counted xs) (sym c.deref-2.ensures.value))

pub returns : goal.returns
returns c =
    let passed = c.args.crossing.now in
    let mine = c.args.own.now in
    let made = c.deref-3.result.now in
    IfOk-weaker c.told_directed_all.result (λ v. v.items ≡ map told_directed made) (λ v. AreLabelsOf c.args.op passed mine (one_list v.items))
    (λ v e. told_labels c.args.op passed mine c.requires c.deref.result.now c.deref-2.result.now c.in_ok-labels.field-0.items
    (c.in_ok-crossing.ensures ∙ ap (λ (xs : List Counted). map told_counted xs) (sym c.deref.ensures.value))
    (c.in_ok-own.ensures ∙ ap (λ (xs : List Counted). map told_counted xs) (sym c.deref-2.ensures.value))
    c.in_ok-labels.ensures.ascending c.in_ok-labels.ensures.along
    v.items (e ∙ ap (λ (xs : List DirectedEdge). map told_directed xs) c.deref-3.ensures.value)) c.told_directed_all.ensures
