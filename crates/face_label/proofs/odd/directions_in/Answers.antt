use Rattle.std.proofs.Common.{◌∙◌, sym}
use Rattle.lane_tests.specs.Probe.{point_of}
use Rattle.geom.specs.Label.{OddLayers, holds_in}
use Rattle.face_label.specs.Strip.{layers_at}
use Rattle.geom.proofs.Doubling.{both, holds_double}
use Rattle.face_label.proofs.odd.directions_in.Goals as goal

pub returns : goal.returns
returns g c =
    let odd : OddLayers = layers_at c.args.layers.now.a c.args.layers.now.b c.args.edge in
    both c.args.op odd c.args.edge c.holds_at-left.result c.holds_at-right.result c.only.result c.only-2.result
    (c.holds_at-left.ensures ∙ (λ i. holds_in c.args.op (record { a = c.over-a.ensures i; b = c.over-b.ensures i }) (point_of c.left_probe.result)) ∙ sym (holds_double c.args.op odd _ _ c.left_probe.ensures.value))
    (c.holds_at-right.ensures ∙ (λ i. holds_in c.args.op (record { a = c.over-a.ensures i; b = c.over-b.ensures i }) (point_of c.left_probe-2.result)) ∙ sym (holds_double c.args.op odd _ _ c.left_probe-2.ensures.value)) c.only.ensures c.only-2.ensures
