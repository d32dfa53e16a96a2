use Rattle.std.proofs.Common.{arith}
use Rattle.engine.proofs.Known.{ready_of}
use Rattle.engine.proofs.ReadLayers.{read_covered, read_layers, read_rounded}
use Rattle.engine.proofs.measured_run.measured_by_workers.Goals as goal

pub rounded_segments-requires-clause-workers : goal.rounded_segments-requires-clause-workers
rounded_segments-requires-clause-workers g c =
    let now = c.args.checked.now in
    let crew = (ready_of now.limits.segments now.plan now.a.now now.b.now now.segments_a now.segments_b now.grid now.are_checked c.in_ok-read.read.items c.in_ok-read.ensures.segments).planned.workers in
    λ κs l. (omega (arith, crew.low), crew.high)

pub rounded_segments-requires-clause-in_limit : goal.rounded_segments-requires-clause-in_limit
rounded_segments-requires-clause-in_limit g c =
    λ κs l. c.in_ok-read.ensures.in_limit

pub rounded_segments-requires-clause-covered : goal.rounded_segments-requires-clause-covered
rounded_segments-requires-clause-covered g c =
    let now = c.args.checked.now in
    λ κs l. read_covered now.limits.segments now.plan now.a.now now.b.now now.segments_a now.segments_b now.grid now.are_checked c.in_ok-read.read.items c.in_ok-read.ensures.segments

pub measured_by_edges-requires-clause-rounded : goal.measured_by_edges-requires-clause-rounded
measured_by_edges-requires-clause-rounded g c κs l =
    let now = c.args.checked.now in
    let noded = c.in_ok-noded.noded in
    read_rounded now.a.now now.b.now now.grid c.in_ok-read.read.items c.in_ok-read.ensures.segments noded.edges.items c.in_ok-noded.ensures.rounded noded.tiles.items c.in_ok-noded.ensures.tiles

pub measured_by_edges-requires-clause-layers : goal.measured_by_edges-requires-clause-layers
measured_by_edges-requires-clause-layers g c κs l =
    let now = c.args.checked.now in
    read_layers now.a.now now.b.now now.grid c.in_ok-read.read.items c.in_ok-read.ensures.segments c.in_ok-noded.noded.edges.items c.in_ok-noded.ensures.rounded c.in_ok-read.ensures.in_limit
