use Rattle.std.proofs.Common.{List, ap, subst, sym, ◌∙◌}
use Rattle.std.specs.List.{All, Contains}
use Rattle.std.specs.Prelude.{◌↔◌}
use Rattle.geom.specs.declared.directed.DirectedEdge.{DirectedEdge}
use Rattle.geom.specs.declared.point.Pt.{Pt}
use Rattle.geom.specs.Limit.{InLimit}
use Rattle.label_sweep.specs.Column.{IsStripOf}
use Rattle.label_sweep.specs.Labels.{directed_of}
use Rattle.label_sweep.proofs.Directing.{edges_along}
use Rattle.label_sweep.proofs.Limits.{ends_in_limit}
use Rattle.label_sweep.proofs.one_strip.strip_labels.Goals as goal

pub sweep-requires-clause-vertices_in : goal.sweep-requires-clause-vertices_in
sweep-requires-clause-vertices_in g c =
    let P : List Pt → Type 0 = All InLimit in
    subst P (sym c.deref.ensures.value) (ends_in_limit c.args.crossing.now c.args.own.now c.requires.crossing_in c.requires.own_in c.in_ok-vertices.vertices.items c.in_ok-vertices.ensures.ends)

pub returns-clause-along : goal.returns-clause-along
returns-clause-along g c = λ all h.
    let P : List Pt → Type 0 = IsStripOf all c.args.crossing.now c.args.own.now in
    let is = subst P (sym c.deref.ensures.value) (c.in_ok-vertices.ensures.strip all h) in
    let edges = c.sorted_once.result.items in
    edges_along c.args.op all c.args.own.now c.in_ok-labelled.labelled.items (c.in_ok-labelled.ensures all is) edges c.sorted_once.ensures.ascending
    (subst (λ (ds : List DirectedEdge). (d : DirectedEdge) → Contains edges d ↔ Contains ds d) (c.in_ok-edges.ensures ∙ ap (directed_of c.args.op) c.deref-2.ensures.value) c.sorted_once.ensures.same)
