use Rattle.std.proofs.Common.{arith}
use Rattle.std.proofs.lemmas.Result.{IfOk-at_ok, err_from_is_err_and}
use Rattle.geom.specs.Rounded.{AreRounded}
use Rattle.grid.specs.Tiles.{tile_count}
use Rattle.linking.specs.Gathered.{AreTileNumbers}
use Rattle.layers.specs.Segments.{AllInLimit, AreSegmentsOf}
use Rattle.engine.specs.Results.{IsWrittenWithin}
use Rattle.engine.specs.Rounds.{IsRemade}
use Rattle.engine.proofs.ReadLayers.{read_covered, read_layers, read_rounded}
use Rattle.engine.proofs.Running.{ends, memory_declines, refused_declines}
use Rattle.engine.proofs.engine.made.Goals as goal

pub returns-in_err-check_plan : goal.returns-in_err-check_plan
returns-in_err-check_plan g c =
    let p = err_from_is_err_and c.from_residual.result c.from_residual.ensures.1 in
    let f = c.in_err-check_plan.field-0.0 in
    rw (p.1, p.2) (refused_declines c.args.limits.segments c.args.plan c.args.a.now c.args.b.now f.at f.fault (c.in_err-check_plan.ensures c.args.limits.segments c.args.a.now c.args.b.now))

pub returns-in-Err : goal.returns-in-Err
returns-in-Err g c = refused_declines c.args.limits.segments c.args.plan c.args.a.now c.args.b.now c.in-Err.fault.at c.in-Err.fault.fault c.in-Err.ensures.answer

pub returns-in_err-read : goal.returns-in_err-read
returns-in_err-read g c =
    let p = err_from_is_err_and c.from_residual-in_err-read.result c.from_residual-in_err-read.ensures.1 in
    let f = c.in_err-read.field-0.0 in
    rw (p.1, p.2) (memory_declines c.args.limits.segments c.args.plan c.args.a.now c.args.b.now f.at f.fault c.in-Ok.ensures.answer c.in_err-read.ensures)

pub returns-in_err-noded : goal.returns-in_err-noded
returns-in_err-noded g c =
    let p = err_from_is_err_and c.from_residual-in_err-noded.result c.from_residual-in_err-noded.ensures.1 in
    let f = c.in_err-noded.field-0.0 in
    rw (p.1, p.2) (memory_declines c.args.limits.segments c.args.plan c.args.a.now c.args.b.now f.at f.fault c.in-Ok.ensures.answer c.in_err-noded.ensures)

pub rounded_segments-requires-clause-workers : goal.rounded_segments-requires-clause-workers
rounded_segments-requires-clause-workers g c =
    let crew = c.in_ok-check_plan.ensures.workers in
    λ κs l. (omega (arith, crew.low), crew.high)

pub rounded_segments-requires-clause-in_limit : goal.rounded_segments-requires-clause-in_limit
rounded_segments-requires-clause-in_limit g c = λ κs l. IfOk-at_ok (λ v. AllInLimit v.items) c.in_ok-read.ensures c.read_segments_by_workers.ensures.in_limit

pub rounded_segments-requires-clause-covered : goal.rounded_segments-requires-clause-covered
rounded_segments-requires-clause-covered g c =
    let now = c.in-Ok.checked in
    λ κs l. read_covered now.limits.segments now.plan now.a.now now.b.now now.segments_a now.segments_b now.grid now.are_checked c.in_ok-read.read.items
    (IfOk-at_ok (λ v. AreSegmentsOf now.a.now now.b.now v.items) c.in_ok-read.ensures c.read_segments_by_workers.ensures.segments)

pub by_edges-requires-clause-rounded : goal.by_edges-requires-clause-rounded
by_edges-requires-clause-rounded g c κs l =
    let now = c.in-Ok.checked in
    let noded = c.in_ok-noded.noded in
    let read = c.in_ok-read.read.items in
    let segments = IfOk-at_ok (λ v. AreSegmentsOf now.a.now now.b.now v.items) c.in_ok-read.ensures c.read_segments_by_workers.ensures.segments in
    let rounded = IfOk-at_ok (λ n. ∥ AreRounded read n.edges.items ∥₁) c.in_ok-noded.ensures c.rounded_segments.ensures.rounded in
    let tiles = IfOk-at_ok (λ n. AreTileNumbers now.grid read (tile_count now.grid) n.tiles.items) c.in_ok-noded.ensures c.rounded_segments.ensures.tiles in
    read_rounded now.a.now now.b.now now.grid read segments noded.edges.items rounded noded.tiles.items tiles

pub by_edges-requires-clause-layers : goal.by_edges-requires-clause-layers
by_edges-requires-clause-layers g c κs l =
    let now = c.in-Ok.checked in
    let read = c.in_ok-read.read.items in
    let segments = IfOk-at_ok (λ v. AreSegmentsOf now.a.now now.b.now v.items) c.in_ok-read.ensures c.read_segments_by_workers.ensures.segments in
    let in_limit = IfOk-at_ok (λ v. AllInLimit v.items) c.in_ok-read.ensures c.read_segments_by_workers.ensures.in_limit in
    let rounded = IfOk-at_ok (λ n. ∥ AreRounded read n.edges.items ∥₁) c.in_ok-noded.ensures c.rounded_segments.ensures.rounded in
    read_layers now.a.now now.b.now now.grid read segments c.in_ok-noded.noded.edges.items rounded in_limit

pub by_edges-requires-clause-remade : goal.by_edges-requires-clause-remade
by_edges-requires-clause-remade g c κs l = IfOk-at_ok (λ n. IsRemade n.remade) c.in_ok-noded.ensures c.rounded_segments.ensures.remade

pub returns : goal.returns
returns g c =
    let h = c.in-Ok.ensures in
    let now = c.in-Ok.checked in
    ends (λ l p a b m. IsWrittenWithin l.segments c.args.wanted p a b m.text m.report) c.args.limits now.limits c.args.plan now.plan c.args.a.now c.args.b.now now.a.now now.b.now c.by_edges.result c.or_fault-3.result h.same h.answer c.by_edges.ensures c.or_fault-3.ensures
