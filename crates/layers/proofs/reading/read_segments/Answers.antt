use Rattle.std.proofs.lemmas.Result.{IfOk-weaker}
use Rattle.layers.proofs.SegmentsRead.{segments_read}
use Rattle.layers.proofs.reading.read_segments.Goals as goal

pub returns-clause-segments : goal.returns-clause-segments
returns-clause-segments g c =
    IfOk-weaker c.segments_of.result _ _
    (λ v h. segments_read c.args.checked.now.a.now c.args.checked.now.b.now c.in_ok-layer_a.layer_a c.in_ok-layer_b.layer_b v.items c.in_ok-layer_a.ensures.answer c.in_ok-layer_b.ensures.answer h)
    c.segments_of.ensures.segments
