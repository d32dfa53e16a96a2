use Rattle.std.proofs.lemmas.Result.{IfOk-weaker}
use Rattle.engine.proofs.Rounding.{covered, layers_of}
use Rattle.results.proofs.Answering.{if_both}
use Rattle.engine.proofs.Known.{ready_of}
use Rattle.engine.proofs.alone.rounded_alone.Goals as goal

pub gathered_alone-requires : goal.gathered_alone-requires
gathered_alone-requires g c =
    let now = c.args.checked.now in
    let segments = c.in_ok-segments.segments.items in
    let s = c.in_ok-segments.ensures.segments in
    let ready = ready_of now.limits.segments now.plan now.a.now now.b.now now.segments_a now.segments_b now.grid now.are_checked segments s in
    record {
      in_limit = c.in_ok-segments.ensures.in_limit;
      covered = covered now.limits.segments now.plan now.a.now now.b.now s.rings_a s.rings_b now.grid segments ready s;
    }

pub returns-clause-rounded : goal.returns-clause-rounded
returns-clause-rounded g c =
    let segments = c.in_ok-segments.segments.items in
    if_both c.gathered_alone.result _ _ _
    (λ n r t. record { segments = segments; are_segments = c.in_ok-segments.ensures.segments; rounded = r; tiles_are = t })
    c.gathered_alone.ensures.rounded c.gathered_alone.ensures.tiles

pub returns-clause-layers : goal.returns-clause-layers
returns-clause-layers g c =
    let segments = c.in_ok-segments.segments.items in
    IfOk-weaker c.gathered_alone.result _ _
    (λ n r. layers_of c.args.checked.now.a.now c.args.checked.now.b.now segments n.edges.items c.in_ok-segments.ensures.segments c.in_ok-segments.ensures.in_limit r)
    c.gathered_alone.ensures.rounded
