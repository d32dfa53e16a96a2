use Rattle.std.proofs.Common.{◌∙◌, List, ap, map, subst, sym}
use Rattle.std.specs.Prelude.{All, AllPairs}
use Rattle.geom.specs.declared.directed.DirectedEdge.{DirectedEdge}
use Rattle.geom.specs.Directed.{IsDirectedBefore}
use Rattle.geom.specs.Limit.{AreInLimit}
use Rattle.overlay_c.specs.StripLabels.{told_directed}
use Rattle.overlay_c.proofs.PolygonsTelling.{edges_ascend, edges_limited}
use Rattle.overlay_c.proofs.StripClosed.{closed_told, directed_items}
use Rattle.overlay_c.proofs.strip_closed.closed_lists.Goals as goal

pub parted-requires-clause-ascending : goal.parted-requires-clause-ascending
parted-requires-clause-ascending c = subst (λ (ds : List DirectedEdge). AllPairs IsDirectedBefore ds) (sym (c.deref.ensures.value ∙ c.in_ok-edges.ensures))
    (edges_ascend c.args.known.now (directed_items c.args.cuts.now c.args.first c.args.past c.args.known.now c.requires))

pub parted-requires-clause-in_limit : goal.parted-requires-clause-in_limit
parted-requires-clause-in_limit c = subst (λ (ds : List DirectedEdge). All (λ (d : DirectedEdge). AreInLimit d.from d.to) ds) (sym (c.deref.ensures.value ∙ c.in_ok-edges.ensures))
    (edges_limited c.args.known.now (directed_items c.args.cuts.now c.args.first c.args.past c.args.known.now c.requires))

pub returns : goal.returns
returns c = closed_told c.args.cuts.now c.args.first c.args.past c.args.known.now c.requires c.in_ok-made.made.closed.items c.in_ok-made.made.open.items c.deref.result.now
    (c.deref.ensures.value ∙ c.in_ok-edges.ensures) c.in_ok-made.ensures.parted c.in_ok-told_directed_all.field-0.items c.in_ok-told_directed_all-2.field-0.items
    (c.in_ok-told_directed_all.ensures ∙ ap (λ (xs : List DirectedEdge). map told_directed xs) c.deref-2.ensures.value)
    (c.in_ok-told_directed_all-2.ensures ∙ ap (λ (xs : List DirectedEdge). map told_directed xs) c.deref-3.ensures.value)
