use Rattle.std.proofs.Common.{◌≡◌}
use Rattle.overlay_c.specs.Measured.{FailsMeasured, IsMeasuredText, no_measures}
use Rattle.overlay_c.proofs.Telling.{fills}
use Rattle.overlay_c.proofs.measured_call.overlay_measured_fill.Goals as goal

pub returns-clause-fills : goal.returns-clause-fills
returns-clause-fills c =
    let measures = c.measured_text-made.new.measures in
    fills (λ text. IsMeasuredText c.args.segments c.args.call c.args.side c.args.a.now c.args.b.now text measures)
    (λ told. FailsMeasured c.args.segments c.args.call c.args.side c.args.a.now c.args.b.now told × (measures ≡ no_measures))
    c.measured_text-made.result c.args.room.now c.fill_with.new.room c.fill_with.result c.measured_text-made.ensures c.fill_with.ensures.put
