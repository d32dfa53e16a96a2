use Rattle.std.proofs.Common.{◌∙◌, ⊎_elim, ap, get_or, inl, inr, subst}
use Rattle.std.specs.Prelude.{pos}
use Rattle.std.proofs.lemmas.List.{get_or_default}
use Rattle.geom.specs.declared.edge.Counted.{Counted}
use Rattle.geom.specs.declared.point.Pt.{Pt}
use Rattle.geom.specs.Order.{IsUpTo}
use Rattle.label_sweep.proofs.Merging.{lesser_either, lesser_first, lesser_second}
use Rattle.label_sweep.proofs.second_ends.next_vertex.Goals as goal

pub returns-else-past-ends-clause-end : goal.returns-else-past-ends-clause-end
returns-else-past-ends-clause-end c d l = let P : Pt → Type 0 = IsUpTo c.min.result in
    subst P (get_or_default c.args.ends.now c.args.past _ d l) (lesser_second _ _ c.min.result c.min.ensures)

pub returns-else-past-ends-clause-edge : goal.returns-else-past-ends-clause-edge
returns-else-past-ends-clause-edge c d l = let P : Counted → Type 0 = λ t. IsUpTo c.min.result t.edge.p in
    subst P (get_or_default c.args.own.now c.args.next _ d l) (lesser_first _ _ c.min.result c.min.ensures)

pub returns-else-past-ends-clause-either : goal.returns-else-past-ends-clause-either
returns-else-past-ends-clause-either c =
    let edge_here = c.if-next-own.false in
    let end_here = c.if-past-ends.false in
    let one = c.index-own-next-else-past-ends.result in
    let origin : Pt = record { x = pos 0; y = pos 0 } in
    ⊎_elim
    (λ e. inl (end_here, (λ d. e ∙ get_or_default c.args.ends.now c.args.past origin d end_here)))
    (λ e. inr (edge_here, (λ d. e ∙ ap (λ (t : Counted). t.edge.p) (get_or_default c.args.own.now c.args.next one d edge_here))))
    (lesser_either (get_or c.args.own.now c.args.next one).edge.p (get_or c.args.ends.now c.args.past origin) c.min.result c.min.ensures)
