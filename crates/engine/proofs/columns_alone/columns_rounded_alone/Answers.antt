use Rattle.std.proofs.lemmas.Result.{IfOk-weaker}
use Rattle.layers.specs.ColumnsRefusals.{rings_of}
use Rattle.engine.proofs.RingLayers.{rings_covered}
use Rattle.results.proofs.Answering.{if_both}
use Rattle.engine.proofs.Rounding.{layers_of_rings}
use Rattle.engine.proofs.columns_alone.columns_rounded_alone.Goals as goal

pub gathered_alone-requires : goal.gathered_alone-requires
gathered_alone-requires g c =
    let now = c.args.checked.now in
    let segments = c.in_ok-segments.segments.items in
    record {
      in_limit = c.in_ok-segments.ensures.in_limit;
      covered = rings_covered now.limits.segments now.plan (rings_of c.args.a.now) (rings_of c.args.b.now) now.grid segments c.requires.ready.ready c.in_ok-segments.ensures.segments;
    }

pub returns-clause-rounded : goal.returns-clause-rounded
returns-clause-rounded g c =
    let segments = c.in_ok-segments.segments.items in
    if_both c.gathered_alone.result _ _ _
    (λ n r t. record { segments = segments; are_segments = c.in_ok-segments.ensures.segments; rounded = r; tiles_are = t })
    c.gathered_alone.ensures.rounded c.gathered_alone.ensures.tiles

pub returns-clause-layers : goal.returns-clause-layers
returns-clause-layers g c =
    let segments = c.in_ok-segments.segments.items in
    IfOk-weaker c.gathered_alone.result _ _
    (λ n r. layers_of_rings (rings_of c.args.a.now) (rings_of c.args.b.now) segments n.edges.items c.in_ok-segments.ensures.segments c.in_ok-segments.ensures.in_limit r)
    c.gathered_alone.ensures.rounded
