use Rattle.std.proofs.Common.{List, arith, subst, sym}
use Rattle.std.proofs.lemmas.Result.{IfOk-weaker}
use Rattle.geom.specs.Canonical.{Shape}
use Rattle.geom.specs.declared.edge.Counted.{Counted}
use Rattle.points_law.specs.Law.{AreLayers}
use Rattle.results.specs.Results.{IsResult}
use Rattle.results.proofs.Results.{layers_known}
use Rattle.engine.proofs.columns_run.columns_by_workers.Goals as goal

pub result_polygons_by_workers-requires-clause-layers : goal.result_polygons_by_workers-requires-clause-layers
result_polygons_by_workers-requires-clause-layers g c = λ κs l.
    let h : AreLayers c.deref.result.now = rw c.deref.ensures.value (layers_known c.in_ok-noded.noded.edges.items c.in_ok-noded.ensures.layers) in h

pub output_of-requires : goal.output_of-requires
output_of-requires g c =
    let e = c.in_ok-noded.ensures.rounded.tiles_are.one_each in
    let f = c.requires.ready.ready.few_tiles in
    omega (arith, e, f)

pub returns : goal.returns
returns g c =
    let noded = c.in_ok-noded.noded in
    let polygons = c.in_ok-polygons.polygons.items in
    let on_edges = subst (λ (cs : List Counted). IsResult c.args.op cs polygons) c.deref.ensures.value c.in_ok-polygons.ensures in
    let result = subst (λ (ps : List Shape). IsResult c.args.op noded.edges.items ps) (sym c.deref-2.ensures.value) on_edges in
    IfOk-weaker c.output_of.result _ _ (λ m h. h.0) (c.output_of.ensures.made c.args.op c.args.a.now c.args.b.now c.requires c.in_ok-noded.ensures.rounded c.in_ok-noded.ensures.remade result)
