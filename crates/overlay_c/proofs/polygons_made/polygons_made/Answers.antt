use Rattle.std.proofs.Common.{List, subst, sym}
use Rattle.std.specs.Prelude.{All}
use Rattle.geom.specs.declared.directed.DirectedEdge.{DirectedEdge}
use Rattle.geom.specs.Limit.{AreInLimit}
use Rattle.overlay_c.specs.declared.columns_answer.OverlayColumnsAnswer.{OverlayColumnsAnswer}
use Rattle.overlay_c.specs.Polygons.{FailsPolygons}
use Rattle.overlay_c.specs.Polygons.FailsPolygons.{bad_edge, no_memory}
use Rattle.overlay_c.proofs.PolygonsTelling.{edges_limited}
use Rattle.overlay_c.proofs.polygons_made.polygons_made.Goals as goal

pub returns-in-Some : goal.returns-in-Some
returns-in-Some c = subst (λ (w : OverlayColumnsAnswer). FailsPolygons c.args.items.now w) (sym c.bad_edge.ensures) (bad_edge c.in-Some.place c.in-Some.ensures)

pub columns_along-requires-clause-in_limit : goal.columns_along-requires-clause-in_limit
columns_along-requires-clause-in_limit c = subst (λ (ds : List DirectedEdge). All (λ (d : DirectedEdge). AreInLimit d.from d.to) ds) (sym c.in_ok-edges.ensures.0) (edges_limited c.args.items.now c.in_default.ensures)

pub returns-in-Err : goal.returns-in-Err
returns-in-Err c = subst (λ (w : OverlayColumnsAnswer). FailsPolygons c.args.items.now w) (sym c.no_memory.ensures) (no_memory c.in_default.ensures)
