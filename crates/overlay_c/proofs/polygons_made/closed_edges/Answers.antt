use Rattle.std.proofs.Common.{◌∙◌, List, subst, sym}
use Rattle.std.specs.Prelude.{All, AllPairs}
use Rattle.geom.specs.declared.directed.DirectedEdge.{DirectedEdge}
use Rattle.geom.specs.Directed.{IsDirectedBefore}
use Rattle.geom.specs.Limit.{AreInLimit}
use Rattle.polygonize.specs.Closing.{IsFirstOpen}
use Rattle.overlay_c.specs.declared.columns_answer.OverlayColumnsAnswer.{OverlayColumnsAnswer}
use Rattle.overlay_c.specs.Polygons.{FailsPolygons}
use Rattle.overlay_c.specs.Polygons.FailsPolygons.{no_memory, open_edge}
use Rattle.overlay_c.proofs.PolygonsTelling.{edges_ascend, edges_limited}
use Rattle.overlay_c.proofs.polygons_made.closed_edges.Goals as goal

pub returns-in_default : goal.returns-in_default
returns-in_default c = subst (λ (w : OverlayColumnsAnswer). FailsPolygons c.args.items.now w) (sym c.no_memory.ensures) (no_memory c.requires)

pub first_open-requires-clause-ascending : goal.first_open-requires-clause-ascending
first_open-requires-clause-ascending c = subst (λ (ds : List DirectedEdge). AllPairs IsDirectedBefore ds) (sym (c.deref.ensures.value ∙ c.in-Ok.ensures)) (edges_ascend c.args.items.now c.requires)

pub first_open-requires-clause-in_limit : goal.first_open-requires-clause-in_limit
first_open-requires-clause-in_limit c = subst (λ (ds : List DirectedEdge). All (λ (d : DirectedEdge). AreInLimit d.from d.to) ds) (sym (c.deref.ensures.value ∙ c.in-Ok.ensures)) (edges_limited c.args.items.now c.requires)

pub returns-in-Ok-Some : goal.returns-in-Ok-Some
returns-in-Ok-Some c =
    let open_at = rw c.in-Ok-Some.field-0-is at c.in-Ok-Some.ensures in
    subst (λ (w : OverlayColumnsAnswer). FailsPolygons c.args.items.now w) (sym c.open_edge.ensures)
    (open_edge c.requires c.in-Ok-Some.place (subst (λ (ds : List DirectedEdge). IsFirstOpen ds c.in-Ok-Some.place) (c.deref.ensures.value ∙ c.in-Ok.ensures) open_at))

pub returns-in-Err : goal.returns-in-Err
returns-in-Err c = subst (λ (w : OverlayColumnsAnswer). FailsPolygons c.args.items.now w) (sym c.no_memory-in-Err.ensures) (no_memory c.requires)
