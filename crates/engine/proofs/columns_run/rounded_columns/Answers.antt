use Rattle.std.proofs.Common.{arith}
use Rattle.std.proofs.lemmas.Result.{IfOk-weaker}
use Rattle.layers.specs.ColumnsRefusals.{rings_of}
use Rattle.engine.proofs.RingLayers.{rings_covered}
use Rattle.results.proofs.Answering.{if_both}
use Rattle.engine.proofs.Rounding.{layers_of_rings}
use Rattle.engine.proofs.columns_run.rounded_columns.Goals as goal

pub rounded_segments-requires-clause-workers : goal.rounded_segments-requires-clause-workers
rounded_segments-requires-clause-workers g c =
    let crew = c.requires.ready.ready.planned.workers in
    λ κs l. (omega (arith, crew.low), crew.high)

pub rounded_segments-requires-clause-in_limit : goal.rounded_segments-requires-clause-in_limit
rounded_segments-requires-clause-in_limit g c =
    λ κs l. c.in_ok-segments.ensures.in_limit

pub rounded_segments-requires-clause-covered : goal.rounded_segments-requires-clause-covered
rounded_segments-requires-clause-covered g c =
    let now = c.args.checked.now in
    let segments = c.in_ok-segments.segments.items in
    λ κs l. rings_covered now.limits.segments now.plan (rings_of c.args.a.now) (rings_of c.args.b.now) now.grid segments c.requires.ready.ready c.in_ok-segments.ensures.segments

pub returns-clause-rounded : goal.returns-clause-rounded
returns-clause-rounded g c =
    let segments = c.in_ok-segments.segments.items in
    if_both c.rounded_segments.result _ _ _
    (λ n r t. record { segments = segments; are_segments = c.in_ok-segments.ensures.segments; rounded = r; tiles_are = t })
    c.rounded_segments.ensures.rounded c.rounded_segments.ensures.tiles

pub returns-clause-layers : goal.returns-clause-layers
returns-clause-layers g c =
    let segments = c.in_ok-segments.segments.items in
    IfOk-weaker c.rounded_segments.result _ _
    (λ n r. layers_of_rings (rings_of c.args.a.now) (rings_of c.args.b.now) segments n.edges.items c.in_ok-segments.ensures.segments c.in_ok-segments.ensures.in_limit r)
    c.rounded_segments.ensures.rounded
